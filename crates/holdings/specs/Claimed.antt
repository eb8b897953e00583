-- When the CHECKPOINTs that are held move the low mark.
use Rattle.std.specs.Prelude.{ℕ, Bool, ◌&&◌, List, length, map, take, filter, find, Option, Some, None, nat_le, nat_lt}
use Rattle.std.specs.Option.{option_map}
use Rattle.terms.specs.declared.pairs.Order.{Order}
use Rattle.parts.specs.Messages.{Checkpoint}
use Rattle.drafts.specs.Says.{kept_checkpoint}
use Rattle.drafts.specs.declared.checkpoint.CheckpointDraft.{CheckpointDraft}
use Rattle.drafts.specs.declared.tagged.Tagged.{Tagged}
use Rattle.protocol.specs.Changes.{agrees}
use Rattle.protocol.specs.Replicas.{Replica}
use Rattle.arrayvec.specs.ArrayVec.{ArrayVec}

-- the CHECKPOINTs that agree with one
abbrev pub agreeing : List Checkpoint → Checkpoint → List Checkpoint
agreeing claims c = filter (agrees c) claims

-- low may move to a CHECKPOINT: it is above low, the count has reached it, and a quorum agrees with it
abbrev pub settles : ℕ → ℕ → ℕ → List Checkpoint → Checkpoint → Bool
settles low count quorum claims c = nat_lt low c.order && (nat_le c.order count && nat_le quorum (length (agreeing claims c)))

-- where low moves, if it moves, and the CHECKPOINTs that prove it: those of the quorum of lowest seats
abbrev pub settlement : ℕ → ℕ → ℕ → List Checkpoint → Option (ℕ × List Checkpoint)
settlement low count quorum claims = option_map (λ c. (c.order, take quorum (agreeing claims c))) (find (settles low count quorum claims) claims)

-- the same as it is kept
abbrev pub kept_settlement : Order × ArrayVec (Tagged CheckpointDraft) → ℕ × List Checkpoint
kept_settlement s = (s.0.0, map kept_checkpoint s.1.items)

-- a replica whose low mark moves so: entries up to it fall away
abbrev pub low_moved : {St : Type 0} → Replica St → Option (ℕ × List Checkpoint) → Replica St
low_moved r None = r
low_moved r (Some s) = record r { low = s.0; proof = s.1; entries = filter (λ e. nat_lt s.0 e.proposal.order) r.entries }
