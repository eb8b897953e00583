-- Bytes compared by gathering their differences.
use Rattle.std.proofs.lemmas.Grind.{common_steps}
use Rattle.std.proofs.Common.{◌≡◌, ℕ, ◌+◌, ◌<◌, Bool, true, false, ◌&&◌, eqb, List, [], ◌∷◌, length, get_or, drop, sym, refl, ap, ◌∙◌, ⊎_elim, arith}
use lib.Bits.{bit_or, bit_xor, or_add_and, and_le_l, and_le_r, xor_self, xor_assoc, xor_zero_l, xor_zero_r}
use Rattle.std.proofs.lemmas.List.{at_drop_more}
use Rattle.std.proofs.lemmas.Bool.{eq-eqb, ne_eqb, and_from, and_left, and_right, cases_eq}
use Rattle.std.specs.Str.{bytes_eq}

-- nothing but equal bytes has no difference
xor_nothing : (a b : ℕ) → bit_xor a b ≡ 0 → a ≡ b
xor_nothing a b none =
    sym (xor_zero_r a) ∙ ap (bit_xor a) (sym none) ∙ sym (xor_assoc a a b) ∙ ap (λ x. bit_xor x b) (xor_self a) ∙ xor_zero_l b

or_nothing : (a b : ℕ) → bit_or a b ≡ 0 → (a ≡ 0) × (b ≡ 0)
or_nothing a b none =
    let sum = or_add_and a b in
    let left = and_le_l a b in
    let right = and_le_r a b in
    (omega arith, omega arith)

-- a difference more is none exactly if there was none and the two bytes are equal
one_more : (d a b : ℕ) → eqb (bit_or d (bit_xor a b)) 0 ≡ (eqb d 0 && eqb a b)
one_more d a b =
    ⊎_elim
    (λ (none : d ≡ 0).
    ⊎_elim
    (λ (same : a ≡ b).
    let gone : bit_or d (bit_xor a b) ≡ 0 = rw (none, same) (xor_self b) in
    eq-eqb _ _ gone ∙ sym (and_from (eqb d 0) (eqb a b) (eq-eqb d 0 none) (eq-eqb a b same)))
    (λ (differ : a ≡ b → ⊥). ne_eqb _ _ (λ e. differ (xor_nothing a b (or_nothing d (bit_xor a b) e).1)) ∙ sym (and_right (eqb d 0) (eqb a b) (ne_eqb a b differ)))
    (cases_eq a b))
    (λ (some : d ≡ 0 → ⊥). ne_eqb _ _ (λ e. some (or_nothing d (bit_xor a b) e).0) ∙ sym (and_left (eqb d 0) (eqb a b) (ne_eqb d 0 some)))
    (cases_eq d 0)

and_assoc : (x y z : Bool) → ((x && y) && z) ≡ (x && (y && z))
and_assoc true y z = refl
and_assoc false y z = refl

-- the bytes from place i on, where the difference so far is d
abbrev pub same_so_far : ℕ → List ℕ → List ℕ → ℕ → Bool
same_so_far d xs ys i = eqb d 0 && bytes_eq (drop i xs) (drop i ys)

pub same_goes_on : (d : ℕ) (xs ys : List ℕ) (i : ℕ) → i < length xs → i < length ys → same_so_far (bit_or d (bit_xor (get_or xs i 0) (get_or ys i 0))) xs ys (i + 1) ≡ same_so_far d xs ys i
same_goes_on d xs ys i inside within =
    ap (λ t. t && bytes_eq (drop (i + 1) xs) (drop (i + 1) ys)) (one_more d (get_or xs i 0) (get_or ys i 0))
    ∙ and_assoc (eqb d 0) (eqb (get_or xs i 0) (get_or ys i 0)) (bytes_eq (drop (i + 1) xs) (drop (i + 1) ys))
    ∙ ap (λ t. eqb d 0 && t) (sym (at_drop_more (λ rest. bytes_eq rest (drop i ys)) xs i 0 inside ∙ at_drop_more (λ rest. bytes_eq (get_or xs i 0 ∷ drop (i + 1) xs) rest) ys i 0 within))

-- bytes of different lengths are not the same
pub lengths_differ : (xs ys : List ℕ) → (length xs ≡ length ys → ⊥) → bytes_eq xs ys ≡ false
lengths_differ [] [] differ = absurd (differ refl)
lengths_differ [] (y ∷ ys) differ = refl
lengths_differ (x ∷ xs) [] differ = refl
lengths_differ (x ∷ xs) (y ∷ ys) differ = grind (arith, common_steps, lengths_differ xs ys)
