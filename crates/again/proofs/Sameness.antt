-- Two lists of proposals, one by one.
use Rattle.std.proofs.Common.{◌≡◌, ℕ, suc, ◌+◌, Bool, true, false, List, [], ◌∷◌, length, map, drop, slice_get, get_or, ◌<◌, ◌&&◌, Some, refl, ap, sym, ◌∙◌}
use Rattle.std.proofs.lemmas.Bool.{false≢true}
use Rattle.std.proofs.lemmas.List.{length-map}
use Rattle.parts.specs.Messages.{Prepare}
use Rattle.drafts.specs.declared.prepare.PrepareDraft.{PrepareDraft}
use Rattle.drafts.specs.Says.{prepare_with}
use Rattle.protocol.specs.Take.{same_proposal, same_proposals}
use Rattle.again.proofs.Lists.{item_left, element_left}

-- proposals before they are tagged
abbrev pub untagged : List PrepareDraft → List Prepare
untagged ds = map (λ d. prepare_with d []) ds

-- two tests that passed
pub both : (a b : Bool) → (a && b) ≡ true → (a ≡ true) × (b ≡ true)
both true b e = (refl, e)
both false b e = absurd (false≢true e)

-- of different lengths they are not the same
pub same_lengths : (ps qs : List Prepare) → same_proposals ps qs ≡ true → length ps ≡ length qs
same_lengths [] [] e = refl
same_lengths [] (q ∷ qs) e = absurd (false≢true e)
same_lengths (p ∷ ps) [] e = absurd (false≢true e)
same_lengths (p ∷ ps) (q ∷ qs) e = ap suc (same_lengths ps qs (both (same_proposal p q) (same_proposals ps qs) e).1)

pub different_lengths : (ps : List Prepare) (ds : List PrepareDraft) → (length ps ≡ length ds → ⊥) → false ≡ same_proposals ps (untagged ds)
different_lengths ps ds other = go (same_proposals ps (untagged ds)) refl where
  go : (t : Bool) → same_proposals ps (untagged ds) ≡ t → false ≡ t
  go true e = absurd (other (same_lengths ps (untagged ds) e ∙ length-map ds (λ d. prepare_with d [])))
  go false e = refl

-- at one place of both lists
module _ (ps : List Prepare) (ds : List PrepareDraft) (i : ℕ) (p : Prepare) (d : PrepareDraft) (e : Some p ≡ slice_get ps i) (inside : i < length ds) (f : d ≡ get_or ds i d) where
  step : same_proposals (drop i ps) (untagged (drop i ds)) ≡ (same_proposal p (prepare_with d []) && same_proposals (drop (i + 1) ps) (untagged (drop (i + 1) ds)))
  step = rw (item_left ps i p e, element_left ds i d inside f) refl

  pub next_same : same_proposal p (prepare_with d []) ≡ true → same_proposals (drop i ps) (untagged (drop i ds)) ≡ same_proposals (drop (i + 1) ps) (untagged (drop (i + 1) ds))
  next_same same = step ∙ ap (λ t. t && same_proposals (drop (i + 1) ps) (untagged (drop (i + 1) ds))) same

  pub next_different : same_proposal p (prepare_with d []) ≡ false → false ≡ same_proposals (drop i ps) (untagged (drop i ds))
  next_different other = sym (step ∙ ap (λ t. t && same_proposals (drop (i + 1) ps) (untagged (drop (i + 1) ds))) other)

pub ruleset same = (different_lengths, next_same, next_different)
