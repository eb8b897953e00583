-- Of what is held the first so many are kept.
use Rattle.std.proofs.Common.{◌≡◌, ℕ, suc, ◌+◌, ◌<◌, List, [], ◌∷◌, ◌++◌, length, take, drop, get_or, slice_set, Option, Some, None, is_some, true, ap, ap₂, sym, ◌∙◌, arith, append_assoc}
use Rattle.std.proofs.lemmas.Bool.{false≢true}
use Rattle.std.proofs.lemmas.List.{take_more_set, drop-set-lt}
use Rattle.std.proofs.lemmas.List.Elements.{filter_map-append}
use Rattle.protocol.specs.Standing.{held}
use Rattle.again.proofs.Lists.{some_left, none_left}

module _ {A : Type 0} where
  -- what is held before a place, and so many of what is held from there on
  abbrev pub first_held : List (Option A) → ℕ → ℕ → List A
  first_held places i most = held (take i places) ++ take most (held (drop i places))

  module _ (places : List (Option A)) (i most : ℕ) (place : Option A) (inside : i < length places) (is : place ≡ get_or places i place) where
    -- one place on, when something else was put there
    put : (new : Option A) (more : ℕ) → first_held (slice_set places i new) (i + 1) more ≡ held (take i places) ++ (held (new ∷ []) ++ take more (held (drop (i + 1) places)))
    put new more =
        ap₂ (λ (xs ys : List (Option A)). held xs ++ take more (held ys)) (take_more_set places i new inside) (drop-set-lt (i + 1) places i new (omega arith))
        ∙ ap (λ (xs : List A). xs ++ take more (held (drop (i + 1) places))) (filter_map-append (λ p. p) (take i places) (new ∷ []))
        ∙ append_assoc (held (take i places)) (held (new ∷ [])) _

    -- an empty place stays empty
    pub empty_kept : (new : Option A) → place ≡ None → new ≡ None → first_held (slice_set places i new) (i + 1) most ≡ first_held places i most
    empty_kept new was e = put new most ∙ ap (λ (n : Option A). held (take i places) ++ (held (n ∷ []) ++ take most (held (drop (i + 1) places)))) e ∙ ap (λ xs. held (take i places) ++ take most xs) (sym (none_left places i place inside is was))

    -- one is kept, and one fewer of the others
    kept_as : (new : Option A) (fewer : ℕ) → new ≡ place → is_some new ≡ true → most ≡ fewer + 1 → first_held (slice_set places i new) (i + 1) fewer ≡ first_held places i most
    kept_as None fewer same some more = absurd (false≢true some)
    kept_as (Some x) fewer same some more =
        let one : most ≡ suc fewer = omega arith in
        put (Some x) fewer ∙ sym (ap₂ (λ (n : ℕ) (xs : List A). held (take i places) ++ take n xs) one (some_left places i place inside is x (sym same)))

    pub one_kept : (fewer : ℕ) → is_some (get_or places i place) ≡ true → most ≡ fewer + 1 → first_held (slice_set places i (get_or places i place)) (i + 1) fewer ≡ first_held places i most
    one_kept fewer some more = kept_as (get_or places i place) fewer (sym is) some more

    -- when none are to be kept any more
    pub rest_emptied : most ≡ 0 → first_held (slice_set places i None) (i + 1) most ≡ first_held places i most
    rest_emptied none = put None most ∙ ap (λ (n : ℕ). held (take i places) ++ take n (held (drop (i + 1) places))) none ∙ sym (ap (λ (n : ℕ). held (take i places) ++ take n (held (drop i places))) none)

pub ruleset choosing = (empty_kept, one_kept, rest_emptied)
