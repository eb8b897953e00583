-- What the field's definitions owe the standard.
use Rattle.std.specs.Prelude.{◌≡◌, ℕ, ◌<◌}
use Rattle.aes.specs.Field.{mul, inverse}

-- a byte other than 0 times its inverse is 1, and the inverse of 0 is 0
abbrev pub Inverses : Type 0
Inverses = ((x : ℕ) → 0 < x → x < 256 → mul x (inverse x) ≡ 1) × (inverse 0 ≡ 0)
