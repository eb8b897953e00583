-- What is written in digits makes words.
use Rattle.std.proofs.Common.{◌≡◌, ℕ, suc, ◌/◌, ◌%◌, ◌<◌, Bool, true, false, not, nat_lt, ◌&&◌, List, [], ◌∷◌, ◌++◌, length, map, slice_index, decimal, arith}
use Rattle.std.proofs.lemmas.Bool.{and_parts}
use Rattle.std.proofs.lemmas.Bool.Decides.{nat_tests}
use Rattle.std.specs.Char.{is_ascii_digit, digit_char}
use Rattle.std.specs.List.{AllByRecursion}
use Rattle.std.specs.Str.{all_ascii_digits}
use Rattle.texts.specs.Cutting.{ends_word, IsWord}
use Rattle.texts.specs.Hexes.{hex_of}
use Rattle.texts.specs.Numerals.{number_bound, long_bound}
use Rattle.texts.proofs.Digits.{decimal_digits, decimal_not_empty}

-- a text in which no byte ends a word is one, as a test that computes
abbrev solid : List ℕ → Bool
solid [] = true
solid (b ∷ text) = not (ends_word b) && solid text

bytes_in_word : (text : List ℕ) → solid text ≡ true → AllByRecursion (λ b. ends_word b ≡ false) text
bytes_in_word [] is = tt
bytes_in_word (b ∷ text) is =
    let both = and_parts (not (ends_word b)) (solid text) is in
    (grind (arith, nat_tests, both.0), bytes_in_word text both.1)

pub text_is_word : (text : List ℕ) → (nat_lt 0 (length text) && solid text) ≡ true → IsWord text
text_is_word text is =
    let both = and_parts (nat_lt 0 (length text)) (solid text) is in
    (grind (arith, nat_tests, both.0), bytes_in_word text both.1)

digit_in_word : (d : ℕ) → is_ascii_digit d ≡ true → ends_word d ≡ false
digit_in_word d digit = grind (arith, nat_tests)

digits_in_word : (ds : List ℕ) → all_ascii_digits ds ≡ true → AllByRecursion (λ b. ends_word b ≡ false) ds
digits_in_word [] digits = tt
digits_in_word (d ∷ ds) digits =
    let both = and_parts (is_ascii_digit d) (all_ascii_digits ds) digits in
    (digit_in_word d both.0, digits_in_word ds both.1)

pub decimal_is_word : (n : ℕ) → n < long_bound → IsWord (decimal n)
decimal_is_word n small = (decimal_not_empty n small, digits_in_word (decimal n) (decimal_digits n small))

pub number_is_word : (n : ℕ) → n < number_bound → IsWord (decimal n)
number_is_word n small = decimal_is_word n (omega arith)

pub numbers_are_words : (ns : List ℕ) → AllByRecursion (λ n. n < number_bound) ns → AllByRecursion IsWord (map decimal ns)
numbers_are_words [] small = tt
numbers_are_words (n ∷ ns) small = (number_is_word n small.0, numbers_are_words ns small.1)

hex_digit_in_word : (d : ℕ) → d < 16 → ends_word (digit_char d) ≡ false
hex_digit_in_word d small = grind (arith, nat_tests)

hex_digits_in_word : (bytes : List ℕ) → ((k : ℕ) → slice_index bytes k < 256) → AllByRecursion (λ b. ends_word b ≡ false) (hex_of bytes)
hex_digits_in_word [] small = tt
hex_digits_in_word (byte ∷ bytes) small =
    (hex_digit_in_word (byte / 16) (omega (arith, small 0)), (hex_digit_in_word (byte % 16) (omega arith), hex_digits_in_word bytes (λ k. small (suc k))))

pub hex_is_word : (bytes : List ℕ) → 0 < length bytes → ((k : ℕ) → slice_index bytes k < 256) → IsWord (hex_of bytes)
hex_is_word [] some small = absurd (omega arith)
hex_is_word (byte ∷ bytes) some small = (omega arith, hex_digits_in_word (byte ∷ bytes) small)

pub words_joined : (us vs : List (List ℕ)) → AllByRecursion IsWord us → AllByRecursion IsWord vs → AllByRecursion IsWord (us ++ vs)
words_joined [] vs first second = second
words_joined (u ∷ us) vs first second = (first.0, words_joined us vs first.1 second)
