-- The orders of what is gathered and proposed again.
use Rattle.std.proofs.Common.{◌≡◌, ℕ, zero, suc, ◌+◌, ◌≤◌, ◌==◌, if◌then◌else◌, Bool, true, false, List, [], ◌∷◌, length, map, Option, Some, None, refl, ap, ap₂, sym, ◌∙◌, arith}
use Rattle.std.proofs.lemmas.Bool.{eqb-true, le-leb}
use Rattle.std.proofs.lemmas.Bool.Decides.{nat_tests}
use Rattle.std.proofs.lemmas.List.{length-map}
use Rattle.terms.specs.Numbers.{window}
use Rattle.parts.specs.Messages.{Prepare}
use Rattle.message.specs.Messages.{ViewChange}
use Rattle.protocol.specs.Again.{in_turn, prepare_at, before, moved_to, entries_from, proposed_again}
use Rattle.protocol.specs.Changes.{ascend, highest_low, highest_from}
use Rattle.protocol.specs.Take.{same_proposal, same_proposals}
use Rattle.again.proofs.Sameness.{both}

-- the orders of PREPAREs
abbrev pub orders : List Prepare → List ℕ
orders ps = map (λ p. p.order) ps

-- what is found is of the order
found_or : (order : ℕ) (q : Prepare) (others : Option Prepare) (p : Prepare) (same : Bool) → (q.order == order) ≡ same → (others ≡ Some p → p.order ≡ order) → (if same then Some q else others) ≡ Some p → p.order ≡ order
found_or order q others p true is later e = let this : q ≡ p = cc in ap (λ (x : Prepare). x.order) (sym this) ∙ eqb-true q.order order is
found_or order q others p false is later e = later e

found_order : (order : ℕ) (ps : List Prepare) (p : Prepare) → prepare_at order ps ≡ Some p → p.order ≡ order
found_order order [] p e = cc
found_order order (q ∷ ps) p e = found_or order q (prepare_at order ps) p (q.order == order) refl (found_order order ps p) e

-- those in turn ascend from low + 1
ascending : (low : ℕ) (rest : List Prepare) (o : Option Prepare) → ((p : Prepare) → o ≡ Some p → p.order ≡ low + 1) → ascend (low + 1 + 1) (orders rest) ≡ true → ascend (low + 1) (orders (before o rest)) ≡ true
ascending low rest None of_order others = refl
ascending low rest (Some p) of_order others = rw (of_order p refl, others, le-leb (low + 1) (low + 1) (omega arith)) refl

pub in_turn_ascends : (most low : ℕ) (ps : List Prepare) → ascend (low + 1) (orders (in_turn most low ps)) ≡ true
in_turn_ascends zero low ps = refl
in_turn_ascends (suc most) low ps = ascending low (in_turn most (low + 1) ps) (prepare_at (low + 1) ps) (found_order (low + 1) ps) (in_turn_ascends most (low + 1) ps)

-- and are no more than asked for
one_more : (rest : List Prepare) (o : Option Prepare) (most : ℕ) → length rest ≤ most → length (before o rest) ≤ suc most
one_more rest None most few = omega arith
one_more rest (Some p) most few = omega arith

pub in_turn_few : (most low : ℕ) (ps : List Prepare) → length (in_turn most low ps) ≤ most
in_turn_few zero low ps = omega arith
in_turn_few (suc most) low ps = one_more (in_turn most (low + 1) ps) (prepare_at (low + 1) ps) most (in_turn_few most (low + 1) ps)

-- the same of what is proposed again
orders_moved : (view : ℕ) (ps : List Prepare) → orders (map (moved_to view) ps) ≡ orders ps
orders_moved view [] = refl
orders_moved view (p ∷ ps) = ap (λ os. p.order ∷ os) (orders_moved view ps)

pub proposed_again_ascends : (view : ℕ) (cs : List ViewChange) → ascend (highest_low cs + 1) (orders (proposed_again view cs)) ≡ true
unfolding proposed_again
proposed_again_ascends view cs =
    let ps = in_turn window (highest_low cs) (entries_from (highest_from cs) cs) in
    ap (ascend (highest_low cs + 1)) (orders_moved view ps) ∙ in_turn_ascends window (highest_low cs) (entries_from (highest_from cs) cs)

pub proposed_again_few : (view : ℕ) (cs : List ViewChange) → length (proposed_again view cs) ≤ window
unfolding proposed_again
proposed_again_few view cs =
    let ps = in_turn window (highest_low cs) (entries_from (highest_from cs) cs) in
    omega (arith, length-map ps (moved_to view), in_turn_few window (highest_low cs) (entries_from (highest_from cs) cs))

-- PREPAREs that propose the same have the same orders
order_told : (p q : Prepare) → same_proposal p q ≡ true → p.order ≡ q.order
order_told p q e = grind (arith, nat_tests)

pub same_orders : (ps qs : List Prepare) → same_proposals ps qs ≡ true → orders ps ≡ orders qs
same_orders [] [] e = refl
same_orders [] (q ∷ qs) e = cc
same_orders (p ∷ ps) [] e = cc
same_orders (p ∷ ps) (q ∷ qs) e =
    let one = both (same_proposal p q) (same_proposals ps qs) e in
    ap₂ (λ o os. o ∷ os) (order_told p q one.0) (same_orders ps qs one.1)
