-- The padding depends on the count modulo 2 ^ 64 only.
use Rattle.std.proofs.Common.{◌≡◌, ℕ, ◌+◌, ◌-◌, ◌*◌, ◌%◌, ◌^◌, ◌∷◌, take, replicate, sym, ap, ◌∙◌, add-one, arith}
use Rattle.std.proofs.lemmas.List.{take-replicate}
use Rattle.sha256.specs.Sha256.{be64, padding}

-- eight bytes have the low 64 bits
be64_mod : (x : ℕ) → be64 (x % 2 ^ 64) ≡ be64 x
unfolding be64
be64_mod x = grind arith

-- counts that are the same modulo 2 ^ 64 have the same padding
pub padding_mod : (m n : ℕ) → m % 2 ^ 64 ≡ n % 2 ^ 64 → padding m ≡ padding n
unfolding padding
padding_mod m n e =
    let zeros : (119 - m % 64) % 64 ≡ (119 - n % 64) % 64 = omega arith in
    let bits : 8 * m % 2 ^ 64 ≡ 8 * n % 2 ^ 64 = omega arith in
    let written : be64 (8 * m) ≡ be64 (8 * n) = sym (be64_mod (8 * m)) ∙ ap be64 bits ∙ be64_mod (8 * n) in
    cc

-- the eight bytes of a count of bits, of which the code has the low 64 bits
pub bits_written : (count : ℕ) → be64 (count * 8 % 2 ^ 64) ≡ be64 (8 * count)
bits_written count =
    let same : count * 8 ≡ 8 * count = omega arith in
    be64_mod (count * 8) ∙ ap be64 same

-- the bit 1 and 63 zeros begin with what stands between a message and the count
pub padding_front : (fill : ℕ) → take {A = ℕ} ((119 - fill) % 64 + 1) (0x80 ∷ replicate 63 0) ≡ 0x80 ∷ replicate ((119 - fill) % 64) 0
padding_front fill = rw add-one (ap (λ x. 0x80 ∷ x) (take-replicate ((119 - fill) % 64) 63 0 (omega arith)))
