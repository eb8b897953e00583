-- RFC 4493: the subkeys and the tag of AES-CMAC. The tag is stated over any encryption E of blocks and any subkeys.
use Rattle.std.specs.Prelude.{ℕ, zero, suc, ◌+◌, ◌-◌, ◌*◌, ◌/◌, ◌%◌, Bool, false, if◌then◌else◌, List, [], ◌∷◌, ◌++◌, map, length, take, drop, replicate, ◌==◌, bit_or, nat_lt, slice_index}
use Rattle.std.specs.List.{range_with_len}
use Rattle.aes.specs.Cipher.{xors, aes128}

-- 2.3, the string b << 1: each byte moves left and takes in the top bit of the next, and the last takes in a 0
abbrev pub moved_left : ℕ → ℕ → ℕ
moved_left byte next = bit_or (byte * 2 % 256) (next / 128)

unfoldable pub shift_left : List ℕ → List ℕ
shift_left b = map (λ i. moved_left (slice_index b i) (slice_index b (i + 1))) (range_with_len 0 16)

-- 2.3, the constants
abbrev pub const_zero : List ℕ
const_zero = replicate 16 0

abbrev pub const_rb : List ℕ
const_rb = replicate 15 0 ++ 0x87 ∷ []

-- 2.3, steps 2 and 3: b << 1, and where the most significant bit of b is 1 the sum with const_Rb
abbrev pub doubled : List ℕ → List ℕ
doubled b = let shifted = shift_left b in if nat_lt (slice_index b 0) 128 then shifted else xors shifted const_rb

-- 2.3, Generate_Subkey
abbrev pub subkey1 : (List ℕ → List ℕ) → List ℕ
subkey1 E = doubled (E const_zero)

abbrev pub subkey2 : (List ℕ → List ℕ) → List ℕ
subkey2 E = doubled (subkey1 E)

-- 2.4, steps 2 and 3: n, the number of blocks of a message of this length, and the flag
unfoldable pub blocks : ℕ → ℕ
blocks len = let n = (len + 15) / 16 in if n == 0 then 1 else n

unfoldable pub flag : ℕ → Bool
flag len = let n = (len + 15) / 16 in if n == 0 then false else len % 16 == 0

-- 2.4, the block M_(i + 1)
unfoldable pub block_at : List ℕ → ℕ → List ℕ
block_at m i = take 16 (drop (16 * i) m)

-- 2.4, padding(x): a bit 1, and then zeros up to 16 bytes
unfoldable pub padding : List ℕ → List ℕ
padding x = x ++ 0x80 ∷ replicate (15 - length x) 0

-- 2.4, step 4: M_last from M_n
abbrev pub m_last : List ℕ → List ℕ → Bool → List ℕ → List ℕ
m_last k1 k2 whole block = if whole then xors block k1 else xors (padding block) k2

-- 2.4, step 6, the loop: what X is after i blocks
unfoldable pub chained : (List ℕ → List ℕ) → List ℕ → List ℕ → ℕ → List ℕ
chained E x m zero = x
chained E x m (suc i) = E (xors (chained E x m i) (block_at m i))

-- 2.4, steps 2 to 6, from any X on
unfoldable pub cmac_from : (List ℕ → List ℕ) → List ℕ → List ℕ → List ℕ → List ℕ → List ℕ
cmac_from E k1 k2 x m =
    let n = blocks (length m) in
    E (xors (m_last k1 k2 (flag (length m)) (block_at m (n - 1))) (chained E x m (n - 1)))

-- step 5: X starts as const_Zero
abbrev pub cmac_by : (List ℕ → List ℕ) → List ℕ → List ℕ → List ℕ → List ℕ
cmac_by E k1 k2 m = cmac_from E k1 k2 const_zero m

-- 2.4, AES-CMAC
abbrev pub cmac : List ℕ → List ℕ → List ℕ
cmac key m = cmac_by (aes128 key) (subkey1 (aes128 key)) (subkey2 (aes128 key)) m
