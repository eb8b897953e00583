-- Bytes that hexadecimal digits write, two digits at a time.
use Rattle.std.proofs.Common.{◌≡◌, ℕ, zero, suc, ◌+◌, ◌*◌, ◌/◌, ◌%◌, ◌<◌, true, false, is_some, List, [], ◌∷◌, length, get_or, drop, Some, None, Option, sym, refl, ap, ◌∙◌, arith, rules}
use Rattle.std.proofs.lemmas.List.{at_drop_more}
use Rattle.std.proofs.lemmas.Bool.Decides.{nat_tests}
use Rattle.std.specs.Option.{unwrap_or}
use Rattle.std.specs.Char.{digit_value, digit_char}
use Rattle.std.specs.Simd.{first_chunks}
use Rattle.texts.specs.Hexes.{hex_byte, followed, bytes_of, bytes_of_pairs, hex_of, HexesRead}

none_follows : (byte : Option ℕ) → followed byte None ≡ None
none_follows (Some byte) = refl
none_follows None = refl

pub no_digits : bytes_of [] ≡ Some []
unfolding bytes_of
no_digits = refl

pub odd_digits_write_nothing : (word : List ℕ) → length word % 2 ≡ 1 → None ≡ bytes_of word
unfolding bytes_of
odd_digits_write_nothing [] odd = search rules
odd_digits_write_nothing (_ ∷ []) odd = refl
odd_digits_write_nothing (a ∷ b ∷ rest) odd = sym (none_follows (hex_byte a b)) ∙ ap (followed (hex_byte a b)) (odd_digits_write_nothing rest (omega arith))

-- a word of n pairs writes what they write
pub pairs_write : (n : ℕ) (word : List ℕ) → length word ≡ 2 * n → bytes_of_pairs (first_chunks 2 n word) ≡ bytes_of word
unfolding bytes_of
pairs_write zero [] even = refl
pairs_write zero (_ ∷ _) even = absurd (omega arith)
pairs_write (suc n) [] even = absurd (omega arith)
pairs_write (suc n) (_ ∷ []) even = absurd (omega arith)
pairs_write (suc n) (a ∷ b ∷ rest) even = ap (followed (hex_byte a b)) (pairs_write n rest (omega arith))

some_is : (o : Option (List ℕ)) → is_some o ≡ true → Some (unwrap_or o []) ≡ o
some_is (Some bytes) is = refl
some_is None is = absurd (search rules)

-- a word whose pairs all write bytes writes those
pub whole_word : (n : ℕ) (word : List ℕ) (pairs : List (List ℕ)) → pairs ≡ first_chunks 2 n word → length word ≡ 2 * n → is_some (bytes_of_pairs pairs) ≡ true → Some (unwrap_or (bytes_of_pairs pairs) []) ≡ bytes_of word
whole_word n word pairs are even all = some_is (bytes_of_pairs pairs) all ∙ ap bytes_of_pairs are ∙ pairs_write n word even

-- pairs of which some are judged: they write bytes if those that are left do
module _ (pairs : List (List ℕ)) (i : ℕ) where
  abbrev at : Option ℕ
  at = hex_byte (get_or (get_or pairs i []) 0 0) (get_or (get_or pairs i []) 1 0)

  followed_is : (byte : ℕ) (rest : Option (List ℕ)) → is_some (followed (Some byte) rest) ≡ is_some rest
  followed_is byte None = refl
  followed_is byte (Some more) = refl

  pub pairs_go_on : (byte : ℕ) → i < length pairs → Some byte ≡ at → is_some (bytes_of_pairs (drop i pairs)) ≡ is_some (bytes_of_pairs (drop (i + 1) pairs))
  pairs_go_on byte inside is =
      ap is_some (at_drop_more bytes_of_pairs pairs i [] inside)
      ∙ ap (λ o. is_some (followed o (bytes_of_pairs (drop (i + 1) pairs)))) (sym is)
      ∙ followed_is byte (bytes_of_pairs (drop (i + 1) pairs))

  pub pairs_stop : i < length pairs → None ≡ at → is_some (bytes_of_pairs (drop i pairs)) ≡ false
  pairs_stop inside is =
      ap is_some (at_drop_more bytes_of_pairs pairs i [] inside)
      ∙ ap (λ o. is_some (followed o (bytes_of_pairs (drop (i + 1) pairs)))) (sym is)

-- where all can be read, a byte and those behind it
all_can : (byte : Option ℕ) (rest : Option (List ℕ)) → is_some (followed byte rest) ≡ true → (Some (get_or (unwrap_or (followed byte rest) []) 0 0) ≡ byte) × (unwrap_or (followed byte rest) [] ≡ get_or (unwrap_or (followed byte rest) []) 0 0 ∷ unwrap_or rest []) × (is_some rest ≡ true)
all_can (Some byte) (Some bytes) all = (refl, refl, refl)
all_can (Some byte) None all = absurd (search rules)
all_can None rest all = absurd (search rules)

-- one byte for each pair
pub one_for_each : (pairs : List (List ℕ)) → is_some (bytes_of_pairs pairs) ≡ true → length (unwrap_or (bytes_of_pairs pairs) []) ≡ length pairs
one_for_each [] all = refl
one_for_each (pair ∷ pairs) all =
    let parts = all_can (at (pair ∷ pairs) 0) (bytes_of_pairs pairs) all in
    ap length parts.1 ∙ ap suc (one_for_each pairs parts.2)

pub byte_at : (pairs : List (List ℕ)) (k : ℕ) → is_some (bytes_of_pairs pairs) ≡ true → k < length pairs → at pairs k ≡ Some (get_or (unwrap_or (bytes_of_pairs pairs) []) k 0)
byte_at [] k all inside = absurd (omega arith)
byte_at (pair ∷ pairs) zero all inside = sym (all_can (at (pair ∷ pairs) 0) (bytes_of_pairs pairs) all).0
byte_at (pair ∷ pairs) (suc k) all inside =
    let parts = all_can (at (pair ∷ pairs) 0) (bytes_of_pairs pairs) all in
    byte_at pairs k parts.2 (omega arith) ∙ ap (λ bytes. Some (get_or bytes (suc k) 0)) (sym parts.1)

digit_reads : (d : ℕ) → d < 16 → digit_value (digit_char d) ≡ d
digit_reads d small = grind (arith, nat_tests)

byte_reads : (byte : ℕ) → byte < 256 → hex_byte (digit_char (byte / 16)) (digit_char (byte % 16)) ≡ Some byte
byte_reads byte small =
    let high = digit_reads (byte / 16) (omega arith) in
    let low = digit_reads (byte % 16) (omega arith) in
    grind (arith, nat_tests)

pub hexes_read : HexesRead
unfolding bytes_of
hexes_read [] small = refl
hexes_read (byte ∷ bytes) small =
    ap (λ o. followed o (bytes_of (hex_of bytes))) (byte_reads byte (small 0))
    ∙ ap (followed (Some byte)) (hexes_read bytes (λ k. small (suc k)))

-- what the goals of `HexWord::of` want
pub ruleset pairs = (odd_digits_write_nothing, pairs_write, whole_word, pairs_go_on, pairs_stop, hexes_read)
