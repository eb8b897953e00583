-- What a word of hexadecimal digits writes.
use Rattle.std.specs.Prelude.{◌≡◌, ℕ, ◌+◌, ◌*◌, ◌/◌, ◌%◌, ◌<◌, if◌then◌else◌, ◌&&◌, List, [], ◌∷◌, Some, None, Option, nat_lt, slice_index, get_or}
use Rattle.std.specs.Option.{option_map}
use Rattle.std.specs.Char.{digit_value, digit_char}

-- the byte that two digits write, if they are digits; letters may be of either case
abbrev pub hex_byte : ℕ → ℕ → Option ℕ
hex_byte high low = if nat_lt (digit_value high) 16 && nat_lt (digit_value low) 16 then Some (16 * digit_value high + digit_value low) else None

-- a byte and those behind it, if all can be read
abbrev pub followed : Option ℕ → Option (List ℕ) → Option (List ℕ)
followed (Some byte) rest = option_map (λ bytes. byte ∷ bytes) rest
followed None rest = None

-- two digits to a byte, and nothing else
unfoldable pub bytes_of : List ℕ → Option (List ℕ)
bytes_of [] = Some []
bytes_of (_ ∷ []) = None
bytes_of (high ∷ low ∷ rest) = followed (hex_byte high low) (bytes_of rest)

-- the bytes that pairs of digits write
abbrev pub bytes_of_pairs : List (List ℕ) → Option (List ℕ)
bytes_of_pairs [] = Some []
bytes_of_pairs (pair ∷ pairs) = followed (hex_byte (get_or pair 0 0) (get_or pair 1 0)) (bytes_of_pairs pairs)

-- bytes in hexadecimal: two digits each, small letters
abbrev pub hex_of : List ℕ → List ℕ
hex_of [] = []
hex_of (byte ∷ bytes) = digit_char (byte / 16) ∷ digit_char (byte % 16) ∷ hex_of bytes

-- bytes in hexadecimal read as themselves
abbrev pub HexesRead : Type 0
HexesRead = (bytes : List ℕ) → ((k : ℕ) → slice_index bytes k < 256) → bytes_of (hex_of bytes) ≡ Some bytes
