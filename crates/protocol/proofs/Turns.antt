-- PREPAREs of one view for orders without a gap, and what of a record's entries concerns their PREPAREs alone.
use Rattle.std.proofs.Common.{◌≡◌, ℕ, ◌+◌, ◌<◌, ◌≤◌, inl, inr, nat_lt, List, [], ◌∷◌, ◌++◌, length, map, filter, sym, refl, ap, ◌∙◌, ap₂, nat_eq, subst, arith}
use Rattle.std.proofs.lemmas.Bool.{cases_lt, cases_eq, lt-ltb, le-ltb, cond-true, cond-false, cond_both}
use Rattle.std.proofs.lemmas.List.{map-append, length-map}
use Rattle.parts.specs.Messages.{Prepare}
use Rattle.protocol.specs.Changes.{last_order}
use Rattle.protocol.specs.Replicas.{Entry}
use Rattle.protocol.specs.Sets.{◌∈◌}
use Rattle.protocol.specs.Standing.{vote_added, with_vote, with_vote_of, without_votes, proposals}
use Rattle.protocol.proofs.History.{InTurn}
use Rattle.protocol.proofs.Lists.{in_map, to_map, map_filter}

pub turn_append : (view low : ℕ) (ps qs : List Prepare) → InTurn view low ps → InTurn view (low + length ps) qs → InTurn view low (ps ++ qs)
turn_append view low [] qs r q = subst (λ l. InTurn view l qs) (omega arith) q
turn_append view low (p ∷ ps) qs r q = (r.0, r.1, turn_append view (low + 1) ps qs r.2 (subst (λ l. InTurn view l qs) (omega arith) q))

pub turn_above : (view low : ℕ) (ps : List Prepare) (p : Prepare) → InTurn view low ps → p ∈ ps → (low < p.order) × (p.order ≤ low + length ps)
turn_above view low [] p r m = absurd m
turn_above view low (x ∷ ps) p r (inl e) = let o = ap (λ (y : Prepare). y.order) e in (omega arith, omega arith)
turn_above view low (x ∷ ps) p r (inr m) = let i = turn_above view (low + 1) ps p r.2 m in (omega arith, omega arith)

pub turn_view : (view low : ℕ) (ps : List Prepare) (p : Prepare) → InTurn view low ps → p ∈ ps → p.view ≡ view
turn_view view low [] p r m = absurd m
turn_view view low (x ∷ ps) p r (inl e) = ap (λ y. y.view) e ∙ r.0
turn_view view low (x ∷ ps) p r (inr m) = turn_view view (low + 1) ps p r.2 m

-- one order has one PREPARE
pub turn_one : (view low : ℕ) (ps : List Prepare) (p q : Prepare) → InTurn view low ps → p ∈ ps → q ∈ ps → p.order ≡ q.order → p ≡ q
turn_one view low [] p q r m k e = absurd m
turn_one view low (x ∷ ps) p q r (inl a) (inl b) e = a ∙ sym b
turn_one view low (x ∷ ps) p q r (inl a) (inr k) e = absurd (omega (arith, r.1, turn_above view (low + 1) ps q r.2 k, ap (λ (y : Prepare). y.order) a))
turn_one view low (x ∷ ps) p q r (inr m) (inl b) e = absurd (omega (arith, r.1, turn_above view (low + 1) ps p r.2 m, ap (λ (y : Prepare). y.order) b))
turn_one view low (x ∷ ps) p q r (inr m) (inr k) e = turn_one view (low + 1) ps p q r.2 m k e

-- each order has one
pub turn_has : (view low : ℕ) (ps : List Prepare) (o : ℕ) → InTurn view low ps → low < o → o ≤ low + length ps → (p : Prepare) × (p ∈ ps) × (p.view ≡ view) × (p.order ≡ o)
turn_has view low [] o r above within = absurd (omega arith)
turn_has view low (p ∷ ps) o r above within = elim (cases_eq o (low + 1)) [
  | inl e ↦ (p, inl refl, r.0, r.1 ∙ sym e)
  | inr n ↦ let i = turn_has view (low + 1) ps o r.2 (omega arith) (omega arith) in (i.0, inr i.1, i.2, i.3)
]

pub turn_last : (view low : ℕ) (ps : List Prepare) → InTurn view low ps → last_order low ps ≡ low + length ps
turn_last view low [] r = omega arith
turn_last view low (p ∷ ps) r = ap (λ l. last_order l ps) r.1 ∙ omega (arith, turn_last view (low + 1) ps r.2)

-- the entries of a record are as many as its PREPAREs, so its end tells how many they are
pub proposals_length : (es : List Entry) → length (proposals es) ≡ length es
proposals_length es = length-map es (λ (e : Entry). e.proposal)

pub entries_last : (view low : ℕ) (es : List Entry) → InTurn view low (proposals es) → last_order low (proposals es) ≡ low + length es
entries_last view low es run = omega (arith, turn_last view low (proposals es) run, proposals_length es)

-- PREPAREs above an order
abbrev pub above : ℕ → List Prepare → List Prepare
above l ps = filter (λ p. nat_lt l p.order) ps

above_all : (view low l : ℕ) (ps : List Prepare) → InTurn view low ps → l ≤ low → above l ps ≡ ps
above_all view low l [] r le = refl
above_all view low l (p ∷ ps) r le = cond-true (nat_lt l p.order) _ _ (lt-ltb l p.order (omega (arith, r.1))) ∙ ap (λ qs. p ∷ qs) (above_all view (low + 1) l ps r.2 (omega arith))

-- what stands above a higher low is in turn from there, it ends no lower, and it is no longer
pub turn_cut : (view low l : ℕ) (ps : List Prepare) → InTurn view low ps → low ≤ l
    → InTurn view l (above l ps) × (last_order low ps ≤ last_order l (above l ps)) × (length (above l ps) ≤ length ps)
turn_cut view low l [] r le = (tt, le, omega arith)
turn_cut view low l (p ∷ ps) r le = elim (cases_lt l (low + 1)) [
  | inl near ↦
      let same : low ≡ l = omega arith in
      let all : above l (p ∷ ps) ≡ p ∷ ps = above_all view low l (p ∷ ps) r (omega arith) in
      subst (λ qs. InTurn view l qs × (last_order low (p ∷ ps) ≤ last_order l qs) × (length qs ≤ length (p ∷ ps))) (sym all)
      (subst (λ k. InTurn view k (p ∷ ps)) same r, omega arith, omega arith)
  | inr far ↦
      let cut : above l (p ∷ ps) ≡ above l ps = cond-false (nat_lt l p.order) _ _ (le-ltb l p.order (omega (arith, r.1))) in
      let later = turn_cut view (low + 1) l ps r.2 far in
      subst (λ qs. InTurn view l qs × (last_order low (p ∷ ps) ≤ last_order l qs) × (length qs ≤ length (p ∷ ps))) (sym cut)
      (later.0, subst (λ o. last_order o ps ≤ last_order l (above l ps)) (sym r.1) later.1, omega (arith, later.2))
]

-- the PREPAREs of a record when its entries change
pub proposals_above : (l : ℕ) (es : List Entry) → proposals (filter (λ e. nat_lt l e.proposal.order) es) ≡ above l (proposals es)
proposals_above l es = map_filter (λ (e : Entry). e.proposal) (λ p. nat_lt l p.order) es

pub proposals_with_vote : (s : ℕ) (ps : List Prepare) → proposals (map (with_vote_of s) ps) ≡ ps
proposals_with_vote s [] = refl
proposals_with_vote s (p ∷ ps) = ap (λ qs. p ∷ qs) (proposals_with_vote s ps)

pub proposals_without_votes : (ps : List Prepare) → proposals (map without_votes ps) ≡ ps
proposals_without_votes [] = refl
proposals_without_votes (p ∷ ps) = ap (λ qs. p ∷ qs) (proposals_without_votes ps)

pub proposals_append : (es fs : List Entry) → proposals (es ++ fs) ≡ proposals es ++ proposals fs
proposals_append es fs = map-append (λ (e : Entry). e.proposal) es fs

pub proposals_vote_added : (s o : ℕ) (es : List Entry) → proposals (vote_added s o es) ≡ proposals es
proposals_vote_added s o [] = refl
proposals_vote_added s o (e ∷ es) =
    ap₂ (λ p ps. p ∷ ps)
    (cond_both (nat_eq e.proposal.order o) (record { proposal = e.proposal; votes = with_vote s e.votes }) e (λ x. x.proposal ≡ e.proposal) (λ _. refl) (λ _. refl))
    (proposals_vote_added s o es)

-- the entry of a PREPARE
pub in_proposals : (e : Entry) (es : List Entry) → e ∈ es → e.proposal ∈ proposals es
in_proposals e es m = to_map (λ (x : Entry). x.proposal) e es m

pub of_proposals : (p : Prepare) (es : List Entry) → p ∈ proposals es → (e : Entry) × (e ∈ es) × (p ≡ e.proposal)
of_proposals p es m = in_map (λ (x : Entry). x.proposal) p es m
