-- The table of the S-box, and the inverses of the field, each proved at every byte by one computed test.
use Rattle.std.proofs.Common.{◌≡◌, ℕ, ◌<◌, ◌||◌, true, eqb, get_or, refl, ⊎_elim, arith}
use Rattle.std.proofs.lemmas.Bool.{agree_below_at, eqb-true, or_cases}
use Rattle.aes.specs.Field.{times, mul, power, inverse, affine_bit, from_bits, sbox}
use Rattle.aes.specs.Laws.{Inverses}
use Rattle.aes.specs.declared.bytes.TheConstants.{SBOX}

pub table_is_sbox : (k : ℕ) → k < 256 → get_or SBOX k 0 ≡ sbox k
unfolding times mul power inverse affine_bit from_bits sbox
table_is_sbox k h = eqb-true (get_or SBOX k 0) (sbox k) (agree_below_at (λ x. eqb (get_or SBOX x 0) (sbox x)) (λ _. true) 256 k refl h)

pub inverses : Inverses
unfolding times mul power inverse
inverses = (
  λ x positive h. ⊎_elim
      (λ e. omega (arith, eqb-true x 0 e))
      (λ e. eqb-true (mul x (inverse x)) 1 e)
      (or_cases (eqb x 0) (eqb (mul x (inverse x)) 1) (agree_below_at (λ x. eqb x 0 || eqb (mul x (inverse x)) 1) (λ _. true) 256 x refl h)),
  refl,
)
