-- FIPS 197, section 5: the rounds, the key expansion and the cipher of AES-128. The state is the list of its sixteen
-- bytes, column after column, and so is a round key.
use Rattle.std.specs.Prelude.{ℕ, zero, suc, ◌+◌, ◌*◌, ◌/◌, ◌%◌, List, [], ◌∷◌, ◌++◌, map, bit_xor, slice_index, slice_index_or}
use Rattle.std.specs.List.{range_with_len}
use Rattle.aes.specs.Field.{xtime, sbox}

-- the sum of two lists of bytes, bit by bit
unfoldable pub xors : List ℕ → List ℕ → List ℕ
xors [] ys = []
xors (x ∷ xs) [] = []
xors (x ∷ xs) (y ∷ ys) = bit_xor x y ∷ xors xs ys

-- 5.1.1, SubBytes: each byte by the S-box
unfoldable pub sub_bytes : List ℕ → List ℕ
sub_bytes s = map sbox s

-- 3.4: the byte in row r and column c of the state
abbrev pub cell : List ℕ → ℕ → ℕ → ℕ
cell s r c = slice_index s (r + 4 * c)

-- 5.1.2, ShiftRows: row r is shifted by r places, so that row r of column c comes from column c + r mod 4
abbrev pub shift_rows : List ℕ → List ℕ
shift_rows s = map (λ i. let r = i % 4 in let c = i / 4 in cell s r ((c + r) % 4)) (range_with_len 0 16)

-- 5.1.3, MixColumns: the product {03} x
abbrev pub thrice : ℕ → ℕ
thrice x = bit_xor (xtime x) x

-- one column, and the four
unfoldable pub mix_column : ℕ → ℕ → ℕ → ℕ → List ℕ
mix_column a b c d =
    bit_xor (bit_xor (bit_xor (xtime a) (thrice b)) c) d ∷
    bit_xor (bit_xor (bit_xor a (xtime b)) (thrice c)) d ∷
    bit_xor (bit_xor (bit_xor a b) (xtime c)) (thrice d) ∷
    bit_xor (bit_xor (bit_xor (thrice a) b) c) (xtime d) ∷ []

unfoldable pub mix_columns : List ℕ → List ℕ
mix_columns s =
    mix_column (slice_index s 0) (slice_index s 1) (slice_index s 2) (slice_index s 3)
    ++ mix_column (slice_index s 4) (slice_index s 5) (slice_index s 6) (slice_index s 7)
    ++ mix_column (slice_index s 8) (slice_index s 9) (slice_index s 10) (slice_index s 11)
    ++ mix_column (slice_index s 12) (slice_index s 13) (slice_index s 14) (slice_index s 15)

-- 5.1.4, AddRoundKey
abbrev pub add_round_key : List ℕ → List ℕ → List ℕ
add_round_key s k = xors s k

-- 5.2, KeyExpansion: the word i of a round key, and RotWord, SubWord and the byte of Rcon[t + 1], which is {02}^t
abbrev pub word : List ℕ → ℕ → List ℕ
word k i = slice_index k (4 * i) ∷ slice_index k (4 * i + 1) ∷ slice_index k (4 * i + 2) ∷ slice_index k (4 * i + 3) ∷ []

-- the bytes of four words, one word behind the other
abbrev pub joined : List (List ℕ) → List ℕ
joined ws = map (λ i. slice_index (slice_index_or ws (i / 4) []) (i % 4)) (range_with_len 0 16)

abbrev pub rot_word : List ℕ → List ℕ
rot_word w = slice_index w 1 ∷ slice_index w 2 ∷ slice_index w 3 ∷ slice_index w 0 ∷ []

abbrev pub sub_word : List ℕ → List ℕ
sub_word w = sbox (slice_index w 0) ∷ sbox (slice_index w 1) ∷ sbox (slice_index w 2) ∷ sbox (slice_index w 3) ∷ []

unfoldable pub rcon : ℕ → ℕ
rcon zero = 1
rcon (suc t) = xtime (rcon t)

-- the next round key, where its Rcon has the byte c: each word is the sum of the one four places before and the one
-- before, which for the first goes through RotWord, SubWord and Rcon
unfoldable pub next_key : List ℕ → ℕ → List ℕ
next_key k c =
    let w0 = xors (word k 0) (xors (sub_word (rot_word (word k 3))) (c ∷ 0 ∷ 0 ∷ 0 ∷ [])) in
    let w1 = xors (word k 1) w0 in
    let w2 = xors (word k 2) w1 in
    let w3 = xors (word k 3) w2 in
    w0 ++ w1 ++ w2 ++ w3

-- the key of round t, and those of rounds 0 to 10
unfoldable pub round_key : List ℕ → ℕ → List ℕ
round_key key zero = key
round_key key (suc t) = next_key (round_key key t) (rcon t)

unfoldable pub key_expansion : List ℕ → List (List ℕ)
key_expansion key = map (round_key key) (range_with_len 0 11)

-- 5.1, Cipher: a round, the last round, which has no MixColumns, and the state after t rounds under the round keys w
abbrev pub round : List ℕ → List ℕ → List ℕ
round s k = add_round_key (mix_columns (shift_rows (sub_bytes s))) k

abbrev pub last_round : List ℕ → List ℕ → List ℕ
last_round s k = add_round_key (shift_rows (sub_bytes s)) k

unfoldable pub rounds : List (List ℕ) → List ℕ → ℕ → List ℕ
rounds w s zero = s
rounds w s (suc t) = round (rounds w s t) (slice_index_or w (suc t) [])

-- the first AddRoundKey, nine rounds, and the last
unfoldable pub cipher : List (List ℕ) → List ℕ → List ℕ
cipher w block = last_round (rounds w (add_round_key block (slice_index_or w 0 [])) 9) (slice_index_or w 10 [])

abbrev pub aes128 : List ℕ → List ℕ → List ℕ
aes128 key block = cipher (key_expansion key) block
