-- What a word says where an entry names bytes.
use Rattle.std.specs.Prelude.{ℕ, ◌<◌, if◌then◌else◌, codes, List, [], ◌∷◌, decimal, drop, nat_eq, slice_index, Some, Option, Result}
use Rattle.std.specs.Option.{option_map}
use Rattle.texts.specs.Hexes.{bytes_of, hex_of}
use Rattle.texts.specs.Numerals.{number_bound, number_of}
use Rattle.script.specs.Words.{Left, read_at, spelt}
use Rattle.script.specs.declared.bytes.Bytes.{Bytes}
use Rattle.script.specs.declared.bytes.Bytes.TheVariants.{Here, Line}
use Rattle.script.specs.declared.faults.Expected.TheVariants.{Bytes as NoBytes}
use Rattle.script.specs.declared.faults.Fault.{Fault}

-- `@` (64) and the number of a line for those that it wrote, `-` for none, or hexadecimal digits
abbrev pub bytes_named : List ℕ → Option Bytes
bytes_named word =
    if nat_eq (slice_index word 0) 64 then option_map Line (number_of (drop 1 word))
    else (if spelt (codes "-") word then Some (Here [])
    else option_map Here (bytes_of word))

abbrev pub bytes_at : Left → Result Bytes Fault
bytes_at = read_at NoBytes bytes_named

-- bytes as they are written
abbrev pub bytes_word : Bytes → List ℕ
bytes_word (Here []) = codes "-"
bytes_word (Here (byte ∷ bytes)) = hex_of (byte ∷ bytes)
bytes_word (Line line) = 64 ∷ decimal line

-- bytes are below 256, and a line's number is one that a word can write
abbrev pub BytesFit : Bytes → Type 0
BytesFit (Here bytes) = (k : ℕ) → slice_index bytes k < 256
BytesFit (Line line) = line < number_bound
