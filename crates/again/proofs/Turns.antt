-- PREPAREs in turn.
use Rattle.std.proofs.Common.{◌≡◌, ℕ, suc, ◌+◌, ◌-◌, ◌<◌, List, [], ◌∷◌, ◌++◌, map, Some, None, refl, arith, append_assoc}
use Rattle.std.proofs.lemmas.List.{map-append}
use Rattle.parts.specs.Messages.{Prepare}
use Rattle.drafts.specs.declared.prepare.PrepareDraft.{PrepareDraft}
use Rattle.drafts.specs.declared.tagged.Tagged.{Tagged}
use Rattle.drafts.specs.Says.{kept_prepare}
use Rattle.protocol.specs.Again.{in_turn, prepare_at, before}

-- after i turns
module _ (most low i : ℕ) (ps : List Prepare) (less : i < most) where
  next_turn : in_turn (most - i) (low + i) ps ≡ before (prepare_at (low + i + 1) ps) (in_turn (most - (i + 1)) (low + (i + 1)) ps)
  next_turn =
      let more : most - i ≡ suc (most - (i + 1)) = omega arith in
      let on : low + i + 1 ≡ low + (i + 1) = omega arith in
      rw (more, on) refl

  -- one more is taken, or there is none
  pub turn_taken : (items : List (Tagged PrepareDraft)) (x : Tagged PrepareDraft) → Some (kept_prepare x) ≡ prepare_at (low + i + 1) ps → map kept_prepare (items ++ x ∷ []) ++ in_turn (most - (i + 1)) (low + (i + 1)) ps ≡ map kept_prepare items ++ in_turn (most - i) (low + i) ps
  turn_taken items x some = rw (map-append kept_prepare items (x ∷ []), append_assoc, next_turn, ← some) refl

  pub turn_missing : None ≡ prepare_at (low + i + 1) ps → in_turn (most - i) (low + i) ps ≡ []
  turn_missing none = rw (next_turn, ← none) refl

pub ruleset turns = (turn_taken, turn_missing)
