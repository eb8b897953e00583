-- Places one by one: the seats in other hands, and a place that is changed among others that stay.
use Rattle.std.proofs.Common.{◌≡◌, ◌≢◌, ℕ, zero, suc, ◌+◌, inl, inr, List, [], ◌∷◌, Some, refl, ap, subst, arith}
use Rattle.std.specs.Prelude.{slice_get, slice_set}
use Rattle.protocol.specs.Replicas.{Replica}
use Rattle.protocol.specs.Sets.{◌∈◌}
use Rattle.cluster.specs.Places.{Place, Bare, others_from}
use Rattle.cluster.specs.Places.Place.{Held, Alone}

module _ {A : Type 0} where
  pub get_set_same : (xs : List A) (i : ℕ) (x y : A) → slice_get xs i ≡ Some x → slice_get (slice_set xs i y) i ≡ Some y
  get_set_same [] i x y e = cc
  get_set_same (z ∷ xs) zero x y e = refl
  get_set_same (z ∷ xs) (suc i) x y e = get_set_same xs i x y e

  pub get_set_other : (xs : List A) (i j : ℕ) (y : A) → (j ≢ i) → slice_get (slice_set xs i y) j ≡ slice_get xs j
  get_set_other [] i j y apart = refl
  get_set_other (z ∷ xs) zero zero y apart = absurd (apart refl)
  get_set_other (z ∷ xs) zero (suc j) y apart = refl
  get_set_other (z ∷ xs) (suc i) zero y apart = refl
  get_set_other (z ∷ xs) (suc i) (suc j) y apart = get_set_other xs i j y (λ e. apart (ap suc e))

  pub set_same : (xs : List A) (i : ℕ) (x : A) → slice_get xs i ≡ Some x → slice_set xs i x ≡ xs
  set_same [] i x e = refl
  set_same (y ∷ xs) zero x e = let same : y ≡ x = cc in cc
  set_same (y ∷ xs) (suc i) x e = ap (λ l. y ∷ l) (set_same xs i x e)

module _ {St : Type 0} where
  -- a seat in other hands has a counter alone
  pub other_is_alone : (k : ℕ) (places : List (Place St)) (seat : ℕ) → seat ∈ others_from k places → (i : ℕ) × (c : Bare) × (seat ≡ k + i) × (slice_get places i ≡ Some (Alone c))
  other_is_alone k [] seat m = absurd m
  other_is_alone k (Held r ∷ places) seat m = let t = other_is_alone (suc k) places seat m in (suc t.0, t.1, omega (arith, t.2), t.3)
  other_is_alone k (Alone c ∷ places) seat (inl e) = (0, c, omega (arith, e), refl)
  other_is_alone k (Alone c ∷ places) seat (inr m) = let t = other_is_alone (suc k) places seat m in (suc t.0, t.1, omega (arith, t.2), t.3)

  -- and the other way round
  pub alone_is_other : (k : ℕ) (places : List (Place St)) (i : ℕ) (c : Bare) → slice_get places i ≡ Some (Alone c) → (k + i) ∈ others_from k places
  alone_is_other k [] i c e = absurd (cc)
  alone_is_other k (Held r ∷ places) zero c e = absurd (cc)
  alone_is_other k (Held r ∷ places) (suc i) c e = subst (λ s. s ∈ others_from (suc k) places) (omega arith) (alone_is_other (suc k) places i c e)
  alone_is_other k (Alone b ∷ places) zero c e = inl (omega arith)
  alone_is_other k (Alone b ∷ places) (suc i) c e = inr (subst (λ s. s ∈ others_from (suc k) places) (omega arith) (alone_is_other (suc k) places i c e))

  -- a replica stays a replica, and a counter alone one
  pub held_stays : (k : ℕ) (places : List (Place St)) (i : ℕ) (r s : Replica St) → slice_get places i ≡ Some (Held r) → others_from k (slice_set places i (Held s)) ≡ others_from k places
  held_stays k [] i r s e = refl
  held_stays k (Held p ∷ places) zero r s e = refl
  held_stays k (Alone b ∷ places) zero r s e = absurd (cc)
  held_stays k (Held p ∷ places) (suc i) r s e = held_stays (suc k) places i r s e
  held_stays k (Alone b ∷ places) (suc i) r s e = ap (λ l. k ∷ l) (held_stays (suc k) places i r s e)

  pub alone_stays : (k : ℕ) (places : List (Place St)) (i : ℕ) (c d : Bare) → slice_get places i ≡ Some (Alone c) → others_from k (slice_set places i (Alone d)) ≡ others_from k places
  alone_stays k [] i c d e = refl
  alone_stays k (Alone b ∷ places) zero c d e = refl
  alone_stays k (Held p ∷ places) zero c d e = absurd (cc)
  alone_stays k (Held p ∷ places) (suc i) c d e = alone_stays (suc k) places i c d e
  alone_stays k (Alone b ∷ places) (suc i) c d e = ap (λ l. k ∷ l) (alone_stays (suc k) places i c d e)
