-- The highest number that VIEW-CHANGEs tell.
use Rattle.std.proofs.Common.{◌≡◌, ℕ, ◌≤◌, ◌⊎◌, inl, inr, List, [], ◌∷◌, refl, ap, arith}
use Rattle.std.proofs.lemmas.Bool.{cases_lt}
use Rattle.message.specs.Messages.{ViewChange}
use Rattle.protocol.specs.Changes.{highest}
use Rattle.protocol.specs.Sets.{◌∈◌}

module _ (f : ViewChange → ℕ) where
  pub highest_bounds : (cs : List ViewChange) (c : ViewChange) → c ∈ cs → f c ≤ highest f cs
  highest_bounds [] c m = absurd m
  highest_bounds (x ∷ cs) c (inl e) = omega (arith, ap f e)
  highest_bounds (x ∷ cs) c (inr m) = omega (arith, highest_bounds cs c m)

  -- some VIEW-CHANGE has it
  pub highest_met : (cs : List ViewChange) (c : ViewChange) → c ∈ cs → (x : ViewChange) × (x ∈ cs) × (f x ≡ highest f cs)
  highest_met [] c m = absurd m
  highest_met (x ∷ []) c m = (x, inl refl, omega arith)
  highest_met (x ∷ y ∷ cs) c m =
      let r = highest_met (y ∷ cs) y (inl refl) in
      elim (cases_lt (f x) (highest f (y ∷ cs))) [ inl l ↦ (r.0, inr r.1, omega arith) | inr l ↦ (x, inl refl, omega arith) ]

  pub highest_least : (cs : List ViewChange) (b : ℕ) → ((c : ViewChange) → c ∈ cs → f c ≤ b) → highest f cs ≤ b
  highest_least [] b bounds = omega arith
  highest_least (x ∷ cs) b bounds = omega (arith, bounds x (inl refl), highest_least cs b (λ c m. bounds c (inr m)))

  -- without one it is 0
  pub highest_any : (cs : List ViewChange) → (highest f cs ≡ 0) ⊎ ((x : ViewChange) × (x ∈ cs) × (f x ≡ highest f cs))
  highest_any [] = inl refl
  highest_any (x ∷ cs) = inr (highest_met (x ∷ cs) x (inl refl))
