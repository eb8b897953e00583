-- HMAC with SHA-256 as RFC 2104 defines it, over lists of bytes.
use Rattle.std.specs.Prelude.{ℕ, ◌-◌, if◌then◌else◌, List, ◌++◌, map, length, replicate, bit_xor, nat_lt}
use Rattle.sha256.specs.Sha256.{sha256}

-- section 2: the bytes that ipad and opad repeat
abbrev pub ipad : ℕ
ipad = 0x36

abbrev pub opad : ℕ
opad = 0x5c

-- the key with zeros behind it, 64 bytes in all, and each byte of such a key against the one byte of a pad
abbrev pub zero_filled : List ℕ → List ℕ
zero_filled k = k ++ replicate (64 - length k) 0

unfoldable pub xored : List ℕ → ℕ → List ℕ
xored k pad = map (λ b. bit_xor b pad) k

-- a key of more than 64 bytes is hashed first
unfoldable pub block_key : List ℕ → List ℕ
block_key k = if nat_lt 64 (length k) then zero_filled (sha256 k) else zero_filled k

-- H(K XOR opad, H(K XOR ipad, text))
unfoldable pub hmac : List ℕ → List ℕ → List ℕ
hmac k m = sha256 (xored (block_key k) opad ++ sha256 (xored (block_key k) ipad ++ m))
