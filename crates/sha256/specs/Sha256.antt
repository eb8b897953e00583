-- SHA-256 as FIPS 180-4 defines it, over lists of bytes and of 32-bit words.
use Rattle.std.specs.Prelude.{ℕ, zero, suc, ◌+◌, ◌-◌, ◌*◌, ◌/◌, ◌%◌, ◌^◌, List, [], ◌∷◌, ◌++◌, map, length, take, drop, replicate, bit_and, bit_or, bit_xor, slice_index}
use Rattle.std.specs.List.{range_with_len, flat_map}

-- 3.2: addition modulo 2 ^ 32, the complement, the shift right and the rotation right of a word
abbrev pub add : ℕ → ℕ → ℕ
add x y = (x + y) % 2 ^ 32

abbrev pub complement : ℕ → ℕ
complement x = 2 ^ 32 - 1 - x

abbrev pub shr : ℕ → ℕ → ℕ
shr n x = x / 2 ^ n

unfoldable pub rotr : ℕ → ℕ → ℕ
rotr n x = bit_or (x / 2 ^ n) ((x * 2 ^ (32 - n)) % 2 ^ 32)

-- 4.1.2: the functions of words
abbrev pub ch : ℕ → ℕ → ℕ → ℕ
ch x y z = bit_xor (bit_and x y) (bit_and (complement x) z)

abbrev pub maj : ℕ → ℕ → ℕ → ℕ
maj x y z = bit_xor (bit_xor (bit_and x y) (bit_and x z)) (bit_and y z)

abbrev pub Σ0 : ℕ → ℕ
Σ0 x = bit_xor (bit_xor (rotr 2 x) (rotr 13 x)) (rotr 22 x)

abbrev pub Σ1 : ℕ → ℕ
Σ1 x = bit_xor (bit_xor (rotr 6 x) (rotr 11 x)) (rotr 25 x)

abbrev pub σ0 : ℕ → ℕ
σ0 x = bit_xor (bit_xor (rotr 7 x) (rotr 18 x)) (shr 3 x)

abbrev pub σ1 : ℕ → ℕ
σ1 x = bit_xor (bit_xor (rotr 17 x) (rotr 19 x)) (shr 10 x)

-- 4.2.2: the constants of the rounds
unfoldable pub K : List ℕ
K =
    0x428a2f98 ∷ 0x71374491 ∷ 0xb5c0fbcf ∷ 0xe9b5dba5 ∷ 0x3956c25b ∷ 0x59f111f1 ∷ 0x923f82a4 ∷ 0xab1c5ed5 ∷
    0xd807aa98 ∷ 0x12835b01 ∷ 0x243185be ∷ 0x550c7dc3 ∷ 0x72be5d74 ∷ 0x80deb1fe ∷ 0x9bdc06a7 ∷ 0xc19bf174 ∷
    0xe49b69c1 ∷ 0xefbe4786 ∷ 0x0fc19dc6 ∷ 0x240ca1cc ∷ 0x2de92c6f ∷ 0x4a7484aa ∷ 0x5cb0a9dc ∷ 0x76f988da ∷
    0x983e5152 ∷ 0xa831c66d ∷ 0xb00327c8 ∷ 0xbf597fc7 ∷ 0xc6e00bf3 ∷ 0xd5a79147 ∷ 0x06ca6351 ∷ 0x14292967 ∷
    0x27b70a85 ∷ 0x2e1b2138 ∷ 0x4d2c6dfc ∷ 0x53380d13 ∷ 0x650a7354 ∷ 0x766a0abb ∷ 0x81c2c92e ∷ 0x92722c85 ∷
    0xa2bfe8a1 ∷ 0xa81a664b ∷ 0xc24b8b70 ∷ 0xc76c51a3 ∷ 0xd192e819 ∷ 0xd6990624 ∷ 0xf40e3585 ∷ 0x106aa070 ∷
    0x19a4c116 ∷ 0x1e376c08 ∷ 0x2748774c ∷ 0x34b0bcb5 ∷ 0x391c0cb3 ∷ 0x4ed8aa4a ∷ 0x5b9cca4f ∷ 0x682e6ff3 ∷
    0x748f82ee ∷ 0x78a5636f ∷ 0x84c87814 ∷ 0x8cc70208 ∷ 0x90befffa ∷ 0xa4506ceb ∷ 0xbef9a3f7 ∷ 0xc67178f2 ∷ []

-- 3.1: the low 32 and the low 64 bits of a number as bytes, the most significant first
abbrev pub be32 : ℕ → List ℕ
be32 x = (x / 2 ^ 24 % 256) ∷ (x / 2 ^ 16 % 256) ∷ (x / 2 ^ 8 % 256) ∷ (x % 256) ∷ []

unfoldable pub be64 : ℕ → List ℕ
be64 x =
    (x / 2 ^ 56 % 256) ∷ (x / 2 ^ 48 % 256) ∷ (x / 2 ^ 40 % 256) ∷ (x / 2 ^ 32 % 256) ∷
    (x / 2 ^ 24 % 256) ∷ (x / 2 ^ 16 % 256) ∷ (x / 2 ^ 8 % 256) ∷ (x % 256) ∷ []

-- 5.1.1: what is appended to a message of n bytes: the bit 1, the fewest zeros that leave eight bytes of a block, and
-- the message's length in bits. The standard has messages below 2 ^ 64 bits; of a longer one the length is taken
-- modulo 2 ^ 64
unfoldable pub padding : ℕ → List ℕ
padding n = 0x80 ∷ (replicate ((119 - n % 64) % 64) 0 ++ be64 (8 * n))

abbrev pub padded : List ℕ → List ℕ
padded m = m ++ padding (length m)

-- 5.2.1: a padded message is parsed into blocks of 64 bytes
unfoldable pub blocks : ℕ → List ℕ → List (List ℕ)
blocks zero m = []
blocks (suc n) m = take 64 m ∷ blocks n (drop 64 m)

unfoldable pub parsed : List ℕ → List (List ℕ)
parsed m = blocks (length m / 64) m

-- 5.2.1: word i of a block, and the sixteen of them
unfoldable pub word : List ℕ → ℕ → ℕ
word m i =
    slice_index m (4 * i) * 2 ^ 24 + slice_index m (4 * i + 1) * 2 ^ 16 + slice_index m (4 * i + 2) * 2 ^ 8
    + slice_index m (4 * i + 3)

unfoldable pub words : List ℕ → List ℕ
words m = map (word m) (range_with_len 0 16)

-- 5.3.3: the initial hash value
unfoldable pub H0 : List ℕ
H0 = 0x6a09e667 ∷ 0xbb67ae85 ∷ 0x3c6ef372 ∷ 0xa54ff53a ∷ 0x510e527f ∷ 0x9b05688c ∷ 0x1f83d9ab ∷ 0x5be0cd19 ∷ []

-- 6.2.2, step 1: word t of the message schedule from the words t - 2, t - 7, t - 15 and t - 16; w has the first t words
unfoldable pub scheduled : ℕ → ℕ → ℕ → ℕ → ℕ
scheduled w2 w7 w15 w16 = add (add (add (σ1 w2) w7) (σ0 w15)) w16

abbrev pub next : List ℕ → ℕ
next w =
    let t = length w in
    scheduled (slice_index w (t - 2)) (slice_index w (t - 7)) (slice_index w (t - 15)) (slice_index w (t - 16))

-- n words more
unfoldable pub extended : ℕ → List ℕ → List ℕ
extended zero w = w
extended (suc n) w = extended n (w ++ next w ∷ [])

abbrev pub schedule : List ℕ → List ℕ
schedule m = extended 48 (words m)

-- 6.2.2, step 3: one round on the working variables a to h, and a round for each constant and word
unfoldable pub round : List ℕ → ℕ → ℕ → List ℕ
round s k w =
    let a = slice_index s 0 in
    let b = slice_index s 1 in
    let c = slice_index s 2 in
    let d = slice_index s 3 in
    let e = slice_index s 4 in
    let f = slice_index s 5 in
    let g = slice_index s 6 in
    let h = slice_index s 7 in
    let T1 = add (add (add (add h (Σ1 e)) (ch e f g)) k) w in
    let T2 = add (Σ0 a) (maj a b c) in
    add T1 T2 ∷ a ∷ b ∷ c ∷ add d T1 ∷ e ∷ f ∷ g ∷ []

unfoldable pub rounds : List ℕ → List ℕ → List ℕ → List ℕ
rounds s [] w = s
rounds s (k ∷ ks) [] = s
rounds s (k ∷ ks) (w ∷ ws) = rounds (round s k w) ks ws

-- 6.2.2, step 4: the working variables and the hash value, added word by word
abbrev pub sums : List ℕ → List ℕ → List ℕ
sums s h = map (λ i. add (slice_index s i) (slice_index h i)) (range_with_len 0 8)

-- 6.2.2: the hash value after a block, with which the working variables begin (step 2), and after several blocks
unfoldable pub compressed : List ℕ → List ℕ → List ℕ
compressed h m = sums (rounds h K (schedule m)) h

unfoldable pub hashed : List ℕ → List (List ℕ) → List ℕ
hashed h [] = h
hashed h (m ∷ ms) = hashed (compressed h m) ms

-- 6.2.2, at the end: the message digest is the words of the hash value one behind the other
unfoldable pub digest_bytes : List ℕ → List ℕ
digest_bytes h = flat_map be32 h

unfoldable pub sha256 : List ℕ → List ℕ
sha256 m = digest_bytes (hashed H0 (parsed (padded m)))
