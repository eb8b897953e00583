-- Bytes that are written read as themselves.
use Rattle.std.proofs.Common.{◌≡◌, ℕ, ◌/◌, ◌<◌, [], ◌∷◌, codes, nat_eq, Some, false, refl, ◌∙◌, arith}
use Rattle.std.proofs.lemmas.Bool.Decides.{nat_tests}
use Rattle.std.specs.Char.{digit_char}
use Rattle.texts.proofs.Digits.{decimals_read}
use Rattle.texts.proofs.Pairs.{hexes_read}
use Rattle.texts.specs.Cutting.{IsWord}
use Rattle.texts.specs.Hexes.{hex_of}
use Rattle.script.proofs.Spelling.{spelt_by_bytes}
use Rattle.script.proofs.Written.{decimal_is_word, hex_is_word}
use Rattle.script.specs.Bytes.{bytes_named, bytes_word, BytesFit}
use Rattle.script.specs.Words.{spelt}
use Rattle.script.specs.declared.bytes.Bytes.{Bytes}
use Rattle.script.specs.declared.bytes.Bytes.TheVariants.{Here, Line}

pub bytes_is_word : (bytes : Bytes) → BytesFit bytes → IsWord (bytes_word bytes)
bytes_is_word (Here []) fit = (omega arith, (refl, tt))
bytes_is_word (Here (byte ∷ bytes)) fit = hex_is_word (byte ∷ bytes) (omega arith) fit
bytes_is_word (Line line) fit = (omega arith, (refl, (decimal_is_word line (omega arith)).1))

first_digit : (byte : ℕ) → byte < 256 → (nat_eq (digit_char (byte / 16)) 64 ≡ false) × (nat_eq (digit_char (byte / 16)) 45 ≡ false)
first_digit byte small = (grind (arith, nat_tests), grind (arith, nat_tests))

pub bytes_read : (bytes : Bytes) → BytesFit bytes → bytes_named (bytes_word bytes) ≡ Some bytes
bytes_read (Here []) fit = simp (spelt_by_bytes (codes "-") (codes "-"))
bytes_read (Here (byte ∷ bytes)) fit =
    let first = first_digit byte (fit 0) in
    let solid : spelt (codes "-") (hex_of (byte ∷ bytes)) ≡ false = spelt_by_bytes (codes "-") (hex_of (byte ∷ bytes)) ∙ grind (arith, nat_tests, first.1) in
    simp (first.0, solid, hexes_read (byte ∷ bytes) fit)
bytes_read (Line line) fit = simp (decimals_read line fit)
