-- Two quorums share a seat, and a quorum has a correct one: how many elements lists without doubles may have.
use Rattle.std.proofs.Common.{◌≡◌, ℕ, zero, suc, ◌+◌, ◌<◌, ◌⊎◌, List, [], ◌∷◌, length, refl, sym, ◌∙◌, ap, subst, inl, inr, arith}
use Rattle.std.proofs.lemmas.Bool.{cases_eq}
use Rattle.protocol.specs.Sets.{◌∈◌, Distinct}

in_or_not : (x : ℕ) (ys : List ℕ) → (x ∈ ys) ⊎ (x ∈ ys → ⊥)
in_or_not x [] = inr (λ m. m)
in_or_not x (y ∷ ys) = elim (cases_eq x y) [
  | inl e ↦ inl (inl e)
  | inr n ↦ elim (in_or_not x ys) [ inl m ↦ inl (inr m) | inr k ↦ inr (λ m. elim m [ inl e ↦ n e | inr j ↦ k j ]) ]
]

-- a list without one of its elements
without : (x : ℕ) (ys : List ℕ) → x ∈ ys → (zs : List ℕ) × (length ys ≡ suc (length zs)) × ((y : ℕ) → y ∈ ys → (y ≡ x → ⊥) → y ∈ zs)
without x [] m = absurd m
without x (z ∷ ys) (inl e) = (ys, refl, λ y m ne. elim m [ inl p ↦ absurd (ne (p ∙ sym e)) | inr k ↦ k ])
without x (z ∷ ys) (inr m) =
    let r = without x ys m in
    (z ∷ r.0, ap suc r.1, λ y m ne. elim m [ inl p ↦ inl p | inr k ↦ inr (r.2 y k ne) ])

-- a list without some of its elements, none of which is named twice
rest : (xs ys : List ℕ) → Distinct xs → ((x : ℕ) → x ∈ xs → x ∈ ys) → (zs : List ℕ) × (length ys ≡ length xs + length zs) × ((y : ℕ) → y ∈ ys → (y ∈ xs → ⊥) → y ∈ zs)
rest [] ys d sub = (ys, omega arith, λ y m ne. m)
rest (x ∷ xs) ys d sub =
    let o = without x ys (sub x (inl refl)) in
    let r = rest xs o.0 d.1 (λ y m. o.2 y (sub y (inr m)) (λ e. d.0 (subst (λ z. z ∈ xs) e m))) in
    (r.0, omega arith, λ y m ne. r.2 y (o.2 y m (λ e. ne (inl e))) (λ k. ne (inr k)))

-- a list without doubles that is longer than another has an element that the other has not
pub leaves : (xs ys : List ℕ) → Distinct xs → length ys < length xs → (x : ℕ) × (x ∈ xs) × (x ∈ ys → ⊥)
leaves xs ys d h = elim (look xs) [ inl r ↦ r | inr sub ↦ let r = rest xs ys d sub in absurd (omega arith) ]
  where
    look : (us : List ℕ) → ((x : ℕ) × (x ∈ us) × (x ∈ ys → ⊥)) ⊎ ((x : ℕ) → x ∈ us → x ∈ ys)
    look [] = inr (λ x m. absurd m)
    look (u ∷ us) = elim (in_or_not u ys) [
      | inr n ↦ inl (u, inl refl, n)
      | inl m ↦ elim (look us) [ inl r ↦ inl (r.0, inr r.1, r.2) | inr sub ↦ inr (λ x k. elim k [ inl e ↦ subst (λ z. z ∈ ys) (sym e) m | inr j ↦ sub x j ]) ]
    ]

-- all numbers below one
abbrev below : ℕ → List ℕ
below zero = []
below (suc n) = n ∷ below n

below_length : (n : ℕ) → length (below n) ≡ n
below_length zero = refl
below_length (suc n) = ap suc (below_length n)

below_has : (n s : ℕ) → s < n → s ∈ below n
below_has zero s h = absurd (omega arith)
below_has (suc n) s h = elim (cases_eq s n) [ inl e ↦ inl e | inr k ↦ inr (below_has n s (omega arith)) ]

-- two lists without doubles that have together more elements than there are seats share one
pub share : (n : ℕ) (xs ys : List ℕ) → Distinct xs → Distinct ys → ((s : ℕ) → s ∈ xs → s < n) → ((s : ℕ) → s ∈ ys → s < n)
    → n < length xs + length ys → (s : ℕ) × (s ∈ xs) × (s ∈ ys)
share n xs ys dx dy bx by h =
    let r = rest xs (below n) dx (λ s m. below_has n s (bx s m)) in
    let e = below_length n in
    let l = leaves ys r.0 dy (omega arith) in
    elim (in_or_not l.0 xs) [ inl m ↦ (l.0, m, l.1) | inr k ↦ absurd (l.2 (r.2 l.0 (below_has n l.0 (by l.0 l.1)) k)) ]
