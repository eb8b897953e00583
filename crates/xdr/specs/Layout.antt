-- RFC 4506: the bytes of unsigned ints, unsigned hypers, fixed opaque and counted lists, and a buffer after a write.
use Rattle.std.specs.Prelude.{ℕ, ◌+◌, ◌/◌, ◌%◌, List, [], ◌∷◌, ◌++◌, length, take, drop}
use Rattle.std.specs.List.{flat_map}

-- an unsigned int: four bytes, the most significant first
abbrev pub int : ℕ → List ℕ
int n = (n / 16777216 % 256) ∷ (n / 65536 % 256) ∷ (n / 256 % 256) ∷ (n % 256) ∷ []

-- an unsigned hyper: eight bytes, the most significant first
abbrev pub hyper : ℕ → List ℕ
hyper n = int (n / 4294967296) ++ int (n % 4294967296)

-- fixed opaque, of a length that is a multiple of four, so that no padding follows: the bytes as they are
abbrev pub fixed : List ℕ → List ℕ
fixed bytes = bytes

-- a counted list: how many elements there are, then each
unfoldable pub counted : {X : Type 0} → (X → List ℕ) → List X → List ℕ
counted each xs = int (length xs) ++ flat_map each xs

-- a buffer in which new bytes stand at a place, and everything else as it was
unfoldable pub pasted : List ℕ → ℕ → List ℕ → List ℕ
pasted buffer at bytes = take at buffer ++ (bytes ++ drop (at + length bytes) buffer)
