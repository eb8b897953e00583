-- What a replica tells when it gives its view up.
use Rattle.std.proofs.Common.{◌≡◌, Bool, true, false, if◌then◌else◌, refl}
use Rattle.protocol.specs.Replicas.{Replica}
use Rattle.protocol.specs.Standing.{is_open, proposals}
use Rattle.protocol.specs.Suspect.{gathered, merged, own_change, left}
use Rattle.replica.specs.Standings.{change_with, left_with}

module _ {St : Type 0} (r : Replica St) where
  changes_from : (b : Bool) (q : Replica St) → q ≡ (if b then r else merged r) → own_change q ≡ change_with r q.from (proposals q.entries)
  unfolding merged
  changes_from true q e = rw e refl
  changes_from false q e = rw e refl

  pub change_so : own_change (gathered r) ≡ change_with r (gathered r).from (proposals (gathered r).entries)
  change_so = changes_from (is_open r) (gathered r) refl

  leaves_from : (b : Bool) (q : Replica St) → q ≡ (if b then r else merged r) → left q ≡ left_with r q.from (proposals q.entries)
  unfolding merged
  leaves_from true q e = rw e refl
  leaves_from false q e = rw e refl

  pub left_so : left (gathered r) ≡ left_with r (gathered r).from (proposals (gathered r).entries)
  left_so = leaves_from (is_open r) (gathered r) refl
