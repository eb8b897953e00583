-- FIPS 197, sections 4 and 5.1.1: bytes as elements of the field with 256 elements, and the S-box.
use Rattle.std.specs.Prelude.{ℕ, zero, suc, ◌+◌, ◌*◌, ◌/◌, ◌%◌, ◌^◌, if◌then◌else◌, bit_xor, nat_lt}

-- 4.2, xtime(b), the product {02} b: a shift to the left, and where the top bit was set the sum with {1b}
abbrev pub xtime : ℕ → ℕ
xtime b = let shifted = b * 2 % 256 in if nat_lt b 128 then shifted else bit_xor shifted 0x1b

-- 4.2, the product of a and b by repeated xtime: the sum of {02}^i a over those of the low n bits i of b that are set
unfoldable pub times : ℕ → ℕ → ℕ → ℕ
times zero a b = 0
times (suc n) a b = bit_xor (b % 2 * a) (times n (xtime a) (b / 2))

unfoldable pub mul : ℕ → ℕ → ℕ
mul a b = times 8 a b

-- x to the power 2 ^ n - 1
unfoldable pub power : ℕ → ℕ → ℕ
power zero x = 1
power (suc n) x = let p = power n x in mul x (mul p p)

-- the multiplicative inverse: x to the power 254, which is twice 127; that of 0 is 0
unfoldable pub inverse : ℕ → ℕ
inverse x = let p = power 7 x in mul p p

-- the bit i of a byte
abbrev pub bit : ℕ → ℕ → ℕ
bit b i = b / 2 ^ i % 2

-- 5.1.1: the bit i after the affine transformation, with the constant {63} and the sums mod 2
unfoldable pub affine_bit : ℕ → ℕ → ℕ
affine_bit b i = (bit b i + bit b ((i + 4) % 8) + bit b ((i + 5) % 8) + bit b ((i + 6) % 8) + bit b ((i + 7) % 8) + bit 0x63 i) % 2

-- the byte with these low n bits
unfoldable pub from_bits : (ℕ → ℕ) → ℕ → ℕ
from_bits f zero = 0
from_bits f (suc n) = f n * 2 ^ n + from_bits f n

-- 5.1.1, the S-box: the inverse, then the affine transformation
unfoldable pub sbox : ℕ → ℕ
sbox x = let y = inverse x in from_bits (affine_bit y) 8
