-- Arrays made by calls of a closure: what `array::from_fn` and `map` give.
use Rattle.std.proofs.Common.{◌≡◌, ℕ, zero, suc, ◌+◌, ◌<◌, List, map, length, get_or, refl, ap, subst, sym, ◌∙◌, arith}
use Rattle.std.specs.List.{range_with_len}
use Rattle.std.specs.Array.{IsFromFnResult, IsFromFnResultFrom, MapsFrom, IsMapOf}
use Rattle.std.specs.Fn.{Called}
use Rattle.std.proofs.lemmas.List.{ext_get_or, same_lists, length-map, get_or-map}
use Rattle.std.proofs.lemmas.List.FromFn.{fill_by_all}
use denote.Param.Members.{Mut}

-- a fact that lasts from call to call, and gives each result
module _ {F B : Type 0} (g : Mut F (ℕ × Unit {0}) B) (h : ℕ → B) (J : ℕ → F → Type 0)
    (step : (i : ℕ) (p : F) (y : B) (q : F) → J i p → Called g p (i, tt) y q → (y ≡ h i) × J (i + 1) q) where
  each : (d : B) (ys : List B) (n i j k : ℕ) (p : F) → J i p → IsFromFnResultFrom g p ys i n → k < n → i + k ≡ j → get_or ys j d ≡ h j
  each d ys zero i j k p now calls less e = absurd (omega arith)
  each d ys (suc n) i j zero p now calls less e =
      let here : i ≡ j = omega arith in
      let said = step i p calls.1 calls.0 now calls.3 in
      subst (λ m. get_or ys m d ≡ h m) here (calls.2.1 d ∙ said.0)
  each d ys (suc n) i j (suc k) p now calls less e =
      each d ys n (i + 1) j k calls.0 (step i p calls.1 calls.0 now calls.3).1 calls.4 (omega arith) (omega arith)

  pub from_fn_along : (d : B) (f : F) (ys : List B) (n : ℕ) → J 0 f → IsFromFnResult g f ys n → ys ≡ map h (range_with_len 0 n)
  from_fn_along d f ys n now all = fill_by_all h ys n d all.long (λ k less. each d ys n 0 k k f now all.each less (omega arith))

-- a closure that changes nothing
pub from_fn_same : {F B : Type 0} (g : Mut F (ℕ × Unit {0}) B) (h : ℕ → B) (d : B) (f : F) (ys : List B) (n : ℕ)
    → ((i : ℕ) (y : B) (q : F) → Called g f (i, tt) y q → (y ≡ h i) × (q ≡ f))
    → IsFromFnResult g f ys n → ys ≡ map h (range_with_len 0 n)
from_fn_same g h d f ys n step all =
    from_fn_along g h (λ i p. p ≡ f) (λ i p y q same called. step i y q (subst (λ k. Called g k (i, tt) y q) same called)) d f ys n refl all

pub map_by : {F A B : Type 0} (g : Mut F (A × Unit {0}) B) (h : A → B) (d : A) (e : B) (f : F) (xs : List A) (ys : List B) (n : ℕ)
    → ((p : F) (x : A) (y : B) (q : F) → Called g p (x, tt) y q → y ≡ h x)
    → length xs ≡ n → IsMapOf g f xs ys n → ys ≡ map h xs
map_by g h d e f xs ys n step l all =
    ext_get_or e ys (map h xs) (all.long ∙ sym l ∙ sym (length-map xs h)) (λ k less.
    let within : k < n = omega (arith, all.long) in
    let here : k < length xs = omega arith in
    let call = all.at k d e within in
    step call.0 (get_or xs k d) (get_or ys k e) call.1 call.2 ∙ sym (get_or-map h xs k d e here))

-- `map` by a closure that captures something and changes nothing
module _ {F B : Type 0} (g : Mut F (ℕ × Unit {0}) B) (f : F) (h : ℕ → B) (acts : (x : ℕ) (y : B) (q : F) → Called g f (x, tt) y q → (q ≡ f) × (y ≡ h x)) where
  mapped_at : (xs : List ℕ) (ys : List B) (n i j k : ℕ) (e : B) → MapsFrom g f xs ys i n → k < n → i + k ≡ j → get_or ys j e ≡ h (get_or xs j 0)
  mapped_at xs ys zero i j k e maps below at = absurd (omega arith)
  mapped_at xs ys (suc n) i j zero e (q, x, y, x_is, y_is, call, more) below at =
      let here : i ≡ j = omega arith in
      subst (λ m. get_or ys m e ≡ h (get_or xs m 0)) here (y_is.1 e ∙ (acts x y q call).1 ∙ ap h (sym (x_is.1 0)))
  mapped_at xs ys (suc n) i j (suc k) e (q, x, y, x_is, y_is, call, more) below at =
      mapped_at xs ys n (i + 1) j k e (subst (λ s. MapsFrom g s xs ys (i + 1) n) (acts x y q call).0 more) (omega arith) (omega arith)

  pub map_same : (xs : List ℕ) (ys : List B) (n : ℕ) → IsMapOf g f xs ys n → length xs ≡ n → ys ≡ map h xs
  map_same xs ys n maps long =
      same_lists ys (map h xs) (maps.long ∙ sym long ∙ sym (length-map xs h))
      (λ k e below. mapped_at xs ys n 0 k k e maps.each (rw (← maps.long) below) (omega arith) ∙ sym (get_or-map h xs k 0 e (rw (long, ← maps.long) below)))
