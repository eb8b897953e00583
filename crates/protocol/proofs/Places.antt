-- What a replica holds of the seats: one place for each seat, with what that seat sent.
use Rattle.std.proofs.Common.{◌≡◌, ℕ, zero, suc, ◌+◌, ◌≤◌, ◌⊎◌, List, [], ◌∷◌, map, replicate, slice_set, Option, Some, None, inl, inr, arith}
use Rattle.protocol.specs.Sets.{◌∈◌, Distinct}
use Rattle.protocol.specs.Standing.{held}

-- what stands at the place of a number has that number as its sender
abbrev pub SentBy : {A : Type 0} → (A → ℕ) → ℕ → Option A → Type 0
SentBy sender k None = Unit {0}
SentBy sender k (Some x) = sender x ≡ k

-- so at each place, the places counted from a number on
abbrev pub Placed : {A : Type 0} → (A → ℕ) → ℕ → List (Option A) → Type 0
Placed sender k [] = Unit {0}
Placed sender k (place ∷ places) = SentBy sender k place × Placed sender (k + 1) places

module _ {A : Type 0} (sender : A → ℕ) where
  pub placed_nothing : (k n : ℕ) → Placed sender k (replicate n None)
  placed_nothing k zero = tt
  placed_nothing k (suc n) = (tt, placed_nothing (k + 1) n)

  pub placed_set : (k s : ℕ) (x : A) (places : List (Option A)) → sender x ≡ k + s → Placed sender k places → Placed sender k (slice_set places s (Some x))
  placed_set k s x [] own p = tt
  placed_set k zero x (place ∷ places) own p = (omega arith, p.1)
  placed_set k (suc s) x (place ∷ places) own p = (p.0, placed_set (k + 1) s x places (omega arith) p.1)

  -- the first place is that of the lowest sender, so those that are held are of different senders
  placed_above : (k s : ℕ) (places : List (Option A)) → Placed sender k places → s ∈ map sender (held places) → k ≤ s
  placed_above k s [] p m = absurd m
  placed_above k s (None ∷ places) p m = omega (arith, placed_above (k + 1) s places p.1 m)
  placed_above k s (Some x ∷ places) p (inl e) = omega (arith, e, p.0)
  placed_above k s (Some x ∷ places) p (inr m) = omega (arith, placed_above (k + 1) s places p.1 m)

  pub placed_distinct : (k : ℕ) (places : List (Option A)) → Placed sender k places → Distinct (map sender (held places))
  placed_distinct k [] p = tt
  placed_distinct k (None ∷ places) p = placed_distinct (k + 1) places p.1
  placed_distinct k (Some y ∷ places) p = (λ m. absurd (omega (arith, p.0, placed_above (k + 1) (sender y) places p.1 m)), placed_distinct (k + 1) places p.1)

module _ {A : Type 0} where
  -- what is held after a change is what was put there, or was held before
  pub in_held_set : (s : ℕ) (x y : A) (places : List (Option A)) → y ∈ held (slice_set places s (Some x)) → (y ≡ x) ⊎ (y ∈ held places)
  in_held_set s x y [] m = absurd m
  in_held_set zero x y (None ∷ places) m = m
  in_held_set zero x y (Some z ∷ places) (inl e) = inl e
  in_held_set zero x y (Some z ∷ places) (inr m) = inr (inr m)
  in_held_set (suc s) x y (None ∷ places) m = in_held_set s x y places m
  in_held_set (suc s) x y (Some z ∷ places) (inl e) = inr (inl e)
  in_held_set (suc s) x y (Some z ∷ places) (inr m) = elim (in_held_set s x y places m) [ inl e ↦ inl e | inr i ↦ inr (inr i) ]
