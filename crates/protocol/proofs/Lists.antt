-- Elements of lists: where an element of a list that is made of others comes from, and where it goes.
use Rattle.std.proofs.Common.{◌≡◌, ℕ, zero, suc, ◌⊎◌, inl, inr, Bool, true, false, cond, List, [], ◌∷◌, ◌++◌, take, drop, map, filter, find, flat_map, Some, sym, refl, ap, ◌∙◌, subst}
use Rattle.std.specs.List.{list_any, list_all, AllByRecursion}
use Rattle.std.proofs.lemmas.Bool.{and_parts, or_parts, both_ways, cond_both}
use Rattle.counter.specs.Statements.{Stated}
use Rattle.protocol.specs.Runs.{put_on}
use Rattle.protocol.specs.Sets.{◌∈◌, Distinct}

module _ {A : Type 0} where
  pub in_left : (x : A) (xs ys : List A) → x ∈ xs → x ∈ (xs ++ ys)
  in_left x [] ys m = absurd m
  in_left x (y ∷ xs) ys (inl e) = inl e
  in_left x (y ∷ xs) ys (inr m) = inr (in_left x xs ys m)

  pub in_right : (x : A) (xs ys : List A) → x ∈ ys → x ∈ (xs ++ ys)
  in_right x [] ys m = m
  in_right x (y ∷ xs) ys m = inr (in_right x xs ys m)

  pub in_either : (x : A) (xs ys : List A) → x ∈ (xs ++ ys) → (x ∈ xs) ⊎ (x ∈ ys)
  in_either x [] ys m = inr m
  in_either x (y ∷ xs) ys (inl e) = inl (inl e)
  in_either x (y ∷ xs) ys (inr m) = elim (in_either x xs ys m) [ inl k ↦ inl (inr k) | inr k ↦ inr k ]

  pub in_drop : (x : A) (k : ℕ) (xs : List A) → x ∈ drop k xs → x ∈ xs
  in_drop x zero xs m = m
  in_drop x (suc k) [] m = m
  in_drop x (suc k) (y ∷ xs) m = inr (in_drop x k xs m)

  pub in_take : (x : A) (k : ℕ) (xs : List A) → x ∈ take k xs → x ∈ xs
  in_take x zero xs m = absurd m
  in_take x (suc k) [] m = m
  in_take x (suc k) (y ∷ xs) (inl e) = inl e
  in_take x (suc k) (y ∷ xs) (inr m) = inr (in_take x k xs m)

  -- what a filter keeps stands in the list and passes the test
  pub in_filter : (test : A → Bool) (x : A) (xs : List A) → x ∈ filter test xs → (x ∈ xs) × (test x ≡ true)
  in_filter test x [] m = absurd m
  in_filter test x (y ∷ xs) m =
      cond_both (test y) (y ∷ filter test xs) (filter test xs) (λ kept. x ∈ kept → (x ∈ (y ∷ xs)) × (test x ≡ true))
      (λ passes k. elim k [ inl e ↦ (inl e, ap test e ∙ passes) | inr j ↦ let r = in_filter test x xs j in (inr r.0, r.1) ])
      (λ fails k. let r = in_filter test x xs k in (inr r.0, r.1))
      m

  pub find_told : (test : A → Bool) (x : A) (xs : List A) → find test xs ≡ Some x → (x ∈ xs) × (test x ≡ true)
  find_told test x [] e = cc
  find_told test x (y ∷ xs) e =
      cond_both (test y) (Some y) (find test xs) (λ found. found ≡ Some x → (x ∈ (y ∷ xs)) × (test x ≡ true))
      (λ passes told. let same : x ≡ y = cc in (inl same, ap test same ∙ passes))
      (λ fails told. let r = find_told test x xs told in (inr r.0, r.1))
      e

  -- where one element passes, one is found
  pub find_some : (test : A → Bool) (x : A) (xs : List A) → x ∈ xs → test x ≡ true → (y : A) × (find test xs ≡ Some y)
  find_some test x [] m e = absurd m
  find_some test x (y ∷ xs) m e =
      cond_both (test y) (Some y) (find test xs) (λ found. (z : A) × (found ≡ Some z))
      (λ passes. (y, refl))
      (λ fails. elim m [ inl same ↦ absurd (both_ways (test y) fails (sym (ap test same) ∙ e)) | inr k ↦ find_some test x xs k e ])

  pub all_told : (test : A → Bool) (x : A) (xs : List A) → list_all test xs ≡ true → x ∈ xs → test x ≡ true
  all_told test x [] e m = absurd m
  all_told test x (y ∷ xs) e (inl same) = ap test same ∙ (and_parts (test y) (list_all test xs) e).0
  all_told test x (y ∷ xs) e (inr m) = all_told test x xs (and_parts (test y) (list_all test xs) e).1 m

  pub none_told : (test : A → Bool) (x : A) (xs : List A) → list_any test xs ≡ false → x ∈ xs → test x ≡ false
  none_told test x [] e m = absurd m
  none_told test x (y ∷ xs) e (inl same) = ap test same ∙ (or_parts (test y) (list_any test xs) e).0
  none_told test x (y ∷ xs) e (inr m) = none_told test x xs (or_parts (test y) (list_any test xs) e).1 m

  -- what holds by recursion holds of each element, and the other way round
  pub in_by_recursion : (P : A → Type 0) (x : A) (xs : List A) → AllByRecursion P xs → x ∈ xs → P x
  in_by_recursion P x [] all m = absurd m
  in_by_recursion P x (y ∷ xs) all (inl e) = subst P (sym e) all.0
  in_by_recursion P x (y ∷ xs) all (inr m) = in_by_recursion P x xs all.1 m

  pub by_recursion : (P : A → Type 0) (xs : List A) → ((x : A) → x ∈ xs → P x) → AllByRecursion P xs
  by_recursion P [] each = tt
  by_recursion P (y ∷ xs) each = (each y (inl refl), by_recursion P xs (λ x m. each x (inr m)))

module _ {A B : Type 0} where
  pub in_map : (f : A → B) (y : B) (xs : List A) → y ∈ map f xs → (x : A) × (x ∈ xs) × (y ≡ f x)
  in_map f y [] m = absurd m
  in_map f y (x ∷ xs) (inl e) = (x, inl refl, e)
  in_map f y (x ∷ xs) (inr m) = let r = in_map f y xs m in (r.0, inr r.1, r.2)

  pub to_map : (f : A → B) (x : A) (xs : List A) → x ∈ xs → f x ∈ map f xs
  to_map f x [] m = absurd m
  to_map f x (y ∷ xs) (inl e) = inl (ap f e)
  to_map f x (y ∷ xs) (inr m) = inr (to_map f x xs m)

  pub in_flat_map : (f : A → List B) (y : B) (xs : List A) → y ∈ flat_map f xs → (x : A) × (x ∈ xs) × (y ∈ f x)
  in_flat_map f y [] m = absurd m
  in_flat_map f y (x ∷ xs) m = elim (in_either y (f x) (flat_map f xs) m) [
    | inl k ↦ (x, inl refl, k)
    | inr k ↦ let r = in_flat_map f y xs k in (r.0, inr r.1, r.2)
  ]

  pub to_flat_map : (f : A → List B) (y : B) (x : A) (xs : List A) → x ∈ xs → y ∈ f x → y ∈ flat_map f xs
  to_flat_map f y x [] m k = absurd m
  to_flat_map f y x (z ∷ xs) (inl e) k = in_left y (f z) (flat_map f xs) (subst (λ a. y ∈ f a) e k)
  to_flat_map f y x (z ∷ xs) (inr m) k = in_right y (f z) (flat_map f xs) (to_flat_map f y x xs m k)

  -- a test of what is mapped may stand before the map
  pub map_filter : (f : A → B) (test : B → Bool) (xs : List A) → map f (filter (λ x. test (f x)) xs) ≡ filter test (map f xs)
  map_filter f test [] = refl
  map_filter f test (x ∷ xs) = kept (test (f x)) ∙ ap (λ ys. cond (test (f x)) (f x ∷ ys) ys) (map_filter f test xs)
    where
      kept : (b : Bool)
          → map f (cond b (x ∷ filter (λ z. test (f z)) xs) (filter (λ z. test (f z)) xs)) ≡ cond b (f x ∷ map f (filter (λ z. test (f z)) xs)) (map f (filter (λ z. test (f z)) xs))
      kept true = refl
      kept false = refl

-- numbers of elements that all differ still differ among the first k elements
pub distinct_take : {A : Type 0} (f : A → ℕ) (k : ℕ) (xs : List A) → Distinct (map f xs) → Distinct (map f (take k xs))
distinct_take f zero xs d = tt
distinct_take f (suc k) [] d = tt
distinct_take f (suc k) (x ∷ xs) d = (
  λ m.
      let r = in_map f (f x) (take k xs) m in
      d.0 (subst (λ y. y ∈ map f xs) (sym r.2) (to_map f r.0 xs (in_take r.0 k xs r.1))),
  distinct_take f k xs d.1,
)

-- and among those that pass a test
pub distinct_filter : {A : Type 0} (f : A → ℕ) (test : A → Bool) (xs : List A) → Distinct (map f xs) → Distinct (map f (filter test xs))
distinct_filter f test [] d = tt
distinct_filter f test (x ∷ xs) d =
    let rest = distinct_filter f test xs d.1 in
    cond_both (test x) (x ∷ filter test xs) (filter test xs) (λ kept. Distinct (map f kept))
    (λ passes. (
      λ m.
          let r = in_map f (f x) (filter test xs) m in
          d.0 (subst (λ y. y ∈ map f xs) (sym r.2) (to_map f r.0 xs (in_filter test r.0 xs r.1).0)),
      rest,
    ))
    (λ fails. rest)

-- statements that are put on a log
pub in_put_on : (s : Stated) (new log : List Stated) → s ∈ put_on new log → (s ∈ new) ⊎ (s ∈ log)
in_put_on s [] log m = inr m
in_put_on s (t ∷ new) log m = elim (in_put_on s new (t ∷ log) m) [
  | inl k ↦ inl (inr k)
  | inr k ↦ elim k [ inl e ↦ inl (inl e) | inr j ↦ inr j ]
]

pub put_old : (s : Stated) (new log : List Stated) → s ∈ log → s ∈ put_on new log
put_old s [] log m = m
put_old s (t ∷ new) log m = put_old s new (t ∷ log) (inr m)

pub put_new : (s : Stated) (new log : List Stated) → s ∈ new → s ∈ put_on new log
put_new s [] log m = absurd m
put_new s (t ∷ new) log (inl e) = put_old s new (t ∷ log) (inl e)
put_new s (t ∷ new) log (inr m) = put_new s new (t ∷ log) m
