-- The first PREPARE of an order.
use Rattle.std.proofs.Common.{◌≡◌, ℕ, ◌+◌, ◌<◌, length, get_or, drop, slice_get, Bool, true, false, ◌==◌, if◌then◌else◌, List, [], ◌∷◌, ◌++◌, map, find, Option, Some, None, refl, ap, sym, ◌∙◌, arith}
use Rattle.std.proofs.lemmas.Bool.{cond-true, cond-false, eq-eqb}
use Rattle.std.proofs.lemmas.Bool.Decides.{nat_tests}
use Rattle.std.specs.Option.{option_map, option_or}
use Rattle.std.proofs.lemmas.List.Folds.{find-append}
use Rattle.parts.specs.Messages.{Prepare}
use Rattle.message.specs.Messages.{ViewChange}
use Rattle.drafts.specs.declared.prepare.PrepareDraft.{PrepareDraft}
use Rattle.drafts.specs.declared.tagged.Tagged.{Tagged}
use Rattle.drafts.specs.Says.{kept_prepare}
use Rattle.protocol.specs.Again.{prepare_at, entries_from}
use Rattle.protocol.specs.Standing.{held}
use Rattle.again.proofs.Lists.{item_left, some_left}

-- what is kept as one thing and found as another
found_kept : {X Y : Type 0} (passes : Bool) (f : X → Y) (x : X) (found : Option Y) (others : Option X) → found ≡ option_map f others → (if passes then Some (f x) else found) ≡ option_map f (if passes then Some x else others)
found_kept true f x found others e = refl
found_kept false f x found others e = e

-- numbers that differ fail the test
different : (a b : ℕ) → (a ≡ b → ⊥) → (a == b) ≡ false
different a b other = grind (arith, nat_tests)

find_kept : {X Y : Type 0} (f : X → Y) (p : Y → Bool) (xs : List X) → find p (map f xs) ≡ option_map f (find (λ x. p (f x)) xs)
find_kept f p [] = refl
find_kept f p (x ∷ xs) = found_kept (p (f x)) f x _ _ (find_kept f p xs)

-- a replica's own before what it was told
pub own_first : (order : ℕ) (own : List (Tagged PrepareDraft)) (told : List Prepare) → prepare_at order (map kept_prepare own ++ told) ≡ option_or (option_map kept_prepare (find (λ t. t.draft.order.0 == order) own)) (prepare_at order told)
own_first order own told = find-append (λ (p : Prepare). p.order == order) (map kept_prepare own) told ∙ ap (λ o. option_or o (prepare_at order told)) (find_kept kept_prepare (λ p. p.order == order) own)

chosen_entries : (order : ℕ) (same : Bool) (ps : List Prepare) → prepare_at order (if same then ps else []) ≡ (if same then prepare_at order ps else None)
chosen_entries order true ps = refl
chosen_entries order false ps = refl

-- the entries of the first VIEW-CHANGE before those of the others
told_first : (order from : ℕ) (c : ViewChange) (cs : List ViewChange) → prepare_at order (entries_from from (c ∷ cs)) ≡ option_or (if c.from == from then prepare_at order c.entries else None) (prepare_at order (entries_from from cs))
told_first order from c cs = find-append (λ (p : Prepare). p.order == order) (if c.from == from then c.entries else []) (entries_from from cs) ∙ ap (λ o. option_or o (prepare_at order (entries_from from cs))) (chosen_entries order (c.from == from) c.entries)

-- a PREPARE of another order is passed over, and one of the order is found
module _ (order : ℕ) (ps : List Prepare) (i : ℕ) (p : Prepare) (e : Some p ≡ slice_get ps i) where
  pub order_passed : (p.order ≡ order → ⊥) → prepare_at order (drop i ps) ≡ prepare_at order (drop (i + 1) ps)
  order_passed other = ap (λ qs. prepare_at order qs) (item_left ps i p e) ∙ cond-false (p.order == order) _ _ (different p.order order other)

  pub order_found : p.order ≡ order → Some p ≡ prepare_at order (drop i ps)
  order_found same = sym (ap (λ qs. prepare_at order qs) (item_left ps i p e) ∙ cond-true (p.order == order) _ _ (eq-eqb p.order order same))

pub ruleset found = (order_passed, order_found)

either_none : (same : Bool) (o : Option Prepare) → None ≡ o → (if same then o else None) ≡ None
either_none true o e = sym e
either_none false o e = refl

-- a VIEW-CHANGE of another from view is passed over
module _ (order from : ℕ) (c : ViewChange) (cs : List ViewChange) where
  pub view_passed : (c.from ≡ from → ⊥) → prepare_at order (entries_from from (c ∷ cs)) ≡ prepare_at order (entries_from from cs)
  view_passed other = told_first order from c cs ∙ ap (λ o. option_or o (prepare_at order (entries_from from cs))) (cond-false (c.from == from) _ _ (different c.from from other))

  nothing_told : None ≡ prepare_at order c.entries → prepare_at order (entries_from from (c ∷ cs)) ≡ prepare_at order (entries_from from cs)
  nothing_told none = told_first order from c cs ∙ ap (λ o. option_or o (prepare_at order (entries_from from cs))) (either_none (c.from == from) _ none)

  pub first_told : (p : Prepare) → c.from ≡ from → Some p ≡ prepare_at order c.entries → Some p ≡ prepare_at order (entries_from from (c ∷ cs))
  first_told p same some = sym (told_first order from c cs ∙ ap (λ o. option_or o (prepare_at order (entries_from from cs))) (cond-true (c.from == from) _ _ (eq-eqb c.from from same) ∙ sym some))

-- at a place, where nothing of the order is told
pub passed_over : (order from i : ℕ) (places : List (Option ViewChange)) (place : Option ViewChange) (c : ViewChange) → i < length places → place ≡ get_or places i place → place ≡ Some c → None ≡ prepare_at order c.entries → prepare_at order (entries_from from (held (drop i places))) ≡ prepare_at order (entries_from from (held (drop (i + 1) places)))
passed_over order from i places place c inside is some none = ap (λ cs. prepare_at order (entries_from from cs)) (some_left places i place inside is c some) ∙ nothing_told order from c (held (drop (i + 1) places)) none

pub ruleset told = (view_passed, passed_over, first_told)
