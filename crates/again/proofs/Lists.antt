-- Lists that are gone through from the front: what is left of them at a place.
use Rattle.std.proofs.Common.{◌≡◌, ℕ, zero, suc, ◌+◌, ◌<◌, ◌≤◌, arith, drop_of_length-le, List, [], ◌∷◌, length, map, get_or, drop, slice_get, Option, Some, None, refl, ap, ◌∙◌, add-one, sym, drop-cons}
use Rattle.std.proofs.Math.Seq.{drop-nil}
use Rattle.std.specs.List.{range_with_len}
use Rattle.protocol.specs.Standing.{held}

-- what a place of a list holds begins what is left there
pub element_left : {A : Type 0} (xs : List A) (i : ℕ) (x : A) → i < length xs → x ≡ get_or xs i x → drop i xs ≡ x ∷ drop (i + 1) xs
element_left xs i x inside is = rw (add-one, drop-cons xs i x inside, ← is) refl

-- what is held at a place, and an empty place
module _ {A : Type 0} (places : List (Option A)) (i : ℕ) (place : Option A) (inside : i < length places) (is : place ≡ get_or places i place) where
  pub some_left : (x : A) → place ≡ Some x → held (drop i places) ≡ x ∷ held (drop (i + 1) places)
  some_left x e = ap held (element_left places i place inside is ∙ ap (λ p. p ∷ drop (i + 1) places) e)

  pub none_left : place ≡ None → held (drop i places) ≡ held (drop (i + 1) places)
  none_left e = ap held (element_left places i place inside is ∙ ap (λ p. p ∷ drop (i + 1) places) e)

-- for a loop over places
pub ruleset next_place = (some_left, none_left)

-- the same of what `get` answers
module _ {A : Type 0} where
  item_next : (xs : List A) (i : ℕ) (x : A) → Some x ≡ slice_get xs i → drop i xs ≡ x ∷ drop (suc i) xs
  item_next [] i x e = cc
  item_next (y ∷ xs) zero x e = cc
  item_next (y ∷ xs) (suc i) x e = item_next xs i x e

  pub item_left : (xs : List A) (i : ℕ) (x : A) → Some x ≡ slice_get xs i → drop i xs ≡ x ∷ drop (i + 1) xs
  item_left xs i x e = rw add-one (item_next xs i x e)

  pub nothing_left : (xs : List A) (i : ℕ) → None ≡ slice_get xs i → drop i xs ≡ []
  nothing_left [] i e = drop-nil i
  nothing_left (y ∷ xs) zero e = cc
  nothing_left (y ∷ xs) (suc i) e = nothing_left xs i e

-- for a loop over what `get` answers
pub ruleset next_item = (item_left, nothing_left)

-- all that `get` answers, in so many places
module _ {A : Type 0} where
  nothing_behind : (xs : List A) (i : ℕ) → None ≡ slice_get xs i → drop (suc i) xs ≡ []
  nothing_behind [] i e = refl
  nothing_behind (y ∷ xs) zero e = cc
  nothing_behind (y ∷ xs) (suc i) e = nothing_behind xs i e

  one_placed : (xs : List A) (i : ℕ) (others : List (Option A)) → held others ≡ drop (i + 1) xs → held (slice_get xs i ∷ others) ≡ drop i xs
  one_placed xs i others e = go (slice_get xs i) refl where
    go : (place : Option A) → place ≡ slice_get xs i → held (place ∷ others) ≡ drop i xs
    go None none = e ∙ rw add-one (nothing_behind xs i none) ∙ sym (nothing_left xs i none)
    go (Some x) some = ap (λ ys. x ∷ ys) e ∙ sym (item_left xs i x some)

  placed_from : (n i : ℕ) (xs : List A) → length xs ≤ i + n → held (map (slice_get xs) (range_with_len i n)) ≡ drop i xs
  placed_from zero i xs few = sym (drop_of_length-le xs (omega arith))
  placed_from (suc n) i xs few = one_placed xs i (map (slice_get xs) (range_with_len (i + 1) n)) (placed_from n (i + 1) xs (omega arith))

  pub all_placed : (n : ℕ) (xs : List A) → length xs ≤ n → held (map (slice_get xs) (range_with_len 0 n)) ≡ xs
  all_placed n xs few = placed_from n 0 xs (omega arith)
