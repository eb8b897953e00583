-- Lists of kept things, and an array made of a list.
use Rattle.std.proofs.Common.{◌≡◌, ℕ, zero, suc, ◌+◌, ◌<◌, Bool, true, false, cond, List, [], ◌∷◌, ◌++◌, length, take, map, filter, count_by, get_or, Option, Some, None, refl, ap, ◌∙◌, sym, subst, arith}
use Rattle.std.specs.Option.{option_map}
use Rattle.std.specs.Array.{IsFromFnResult, IsFromFnResultFrom}
use Rattle.std.specs.Fn.{Called}
use Rattle.std.proofs.lemmas.List.{ext_get_or}
use denote.Param.Members.{Mut}
use Rattle.std.proofs.lemmas.List.Sums.{length-filter}
use Rattle.protocol.specs.Standing.{held, is_held}

-- a function of what a test chose
pub of_chosen : {A B : Type 0} (f : A → B) (b : Bool) (x y : A) → f (cond b x y) ≡ cond b (f x) (f y)
of_chosen f true x y = refl
of_chosen f false x y = refl

module _ {A B : Type 0} (f : A → B) where
  -- what is held, read through f
  pub held_mapped : (places : List (Option A)) → held (map (option_map f) places) ≡ map f (held places)
  held_mapped [] = refl
  held_mapped (None ∷ places) = held_mapped places
  held_mapped (Some x ∷ places) = ap (λ (rest : List B). f x ∷ rest) (held_mapped places)

  -- so is what passes a test
  pub filter_mapped : (p : B → Bool) (xs : List A) → filter p (map f xs) ≡ map f (filter (λ x. p (f x)) xs)
  filter_mapped p [] = refl
  filter_mapped p (x ∷ xs) =
      let kept = filter (λ (y : A). p (f y)) xs in
      let b = p (f x) in
      (λ i. cond b (f x ∷ filter_mapped p xs i) (filter_mapped p xs i)) ∙ sym (of_chosen (map f) b (x ∷ kept) kept)

-- one reading after another
pub map_map : {A B C : Type 0} (f : A → B) (g : B → C) (xs : List A) → map (λ x. g (f x)) xs ≡ map g (map f xs)
map_map f g [] = refl
map_map {A} {B} {C} f g (x ∷ xs) = ap (λ (rest : List C). g (f x) ∷ rest) (map_map f g xs)

-- how many places hold something
held_length : {A : Type 0} (places : List (Option A)) → length (filter is_held places) ≡ length (held places)
held_length [] = refl
held_length (None ∷ places) = held_length places
held_length (Some x ∷ places) = ap suc (held_length places)

pub count_held : {A : Type 0} (places : List (Option A)) → count_by is_held places ≡ length (held places)
count_held places = sym (length-filter is_held places) ∙ held_length places

-- taking so many twice is taking them once
pub taken_twice : {A : Type 0} (n : ℕ) (xs ys : List A) → take n (take n xs ++ ys) ≡ take n (xs ++ ys)
taken_twice zero xs ys = refl
taken_twice (suc n) [] ys = refl
taken_twice (suc n) (x ∷ xs) ys = λ i. x ∷ taken_twice n xs ys i

-- an array made by calls of a closure that changes nothing, each of which reads one element of a list
module _ {F B : Type 0} (g : Mut F (ℕ × Unit {0}) B) (f : F) (xs : List B) (none : B)
    (read : (i : ℕ) (y : B) (q : F) → Called g f (i, tt) y q → (y ≡ get_or xs i none) × (q ≡ f)) where
  each_read : (ys : List B) (n i j k : ℕ) → IsFromFnResultFrom g f ys i n → k < n → i + k ≡ j → get_or ys j none ≡ get_or xs j none
  each_read ys zero i j k calls less e = absurd (omega arith)
  each_read ys (suc n) i j zero calls less e =
      let here : i ≡ j = omega arith in
      subst (λ m. get_or ys m none ≡ get_or xs m none) here (calls.2.1 none ∙ (read i calls.1 calls.0 calls.3).0)
  each_read ys (suc n) i j (suc k) calls less e =
      let later = subst (λ q. IsFromFnResultFrom g q ys (i + 1) n) (read i calls.1 calls.0 calls.3).1 calls.4 in
      each_read ys n (i + 1) j k later (omega arith) (omega arith)

  pub all_read : (ys : List B) (n : ℕ) → length xs ≡ n → IsFromFnResult g f ys n → ys ≡ xs
  all_read ys n long all = ext_get_or none ys xs (all.long ∙ sym long) (λ k less. each_read ys n 0 k k all.each (omega (arith, all.long)) (omega arith))
