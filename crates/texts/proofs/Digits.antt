-- What digits write, one digit after the other, and the way back from a number in decimal.
use Rattle.std.proofs.Common.{◌≡◌, ℕ, ◌+◌, ◌*◌, ◌^◌, ◌<◌, ◌≤◌, true, List, [], ◌∷◌, length, Some, None, decimal, arith}
use Rattle.std.proofs.lemmas.Bool.Decides.{nat_tests}
use Rattle.std.proofs.lemmas.Str.Parse.{IsNumeralModel, numerals_by_value, tells_all_ascii_digits}
use Rattle.std.proofs.lemmas.Fmt.{digits_decimal, digits_value-decimal, decimal_nonempty}
use Rattle.std.specs.Char.{digit_value}
use Rattle.std.specs.Str.{all_ascii_digits}
use Rattle.std.specs.Str.Parse.{digits_value, digits_value_after}
use Rattle.texts.specs.Numerals.{number_bound, long_bound, number_after, number_below, with_digit, number_of, long_of, DecimalsRead, LongDecimalsRead}

value_grows : (n : ℕ) (ds : List ℕ) → n ≤ digits_value_after 10 n ds
value_grows n [] = omega arith
value_grows n (d ∷ ds) = omega (arith, value_grows (n * 10 + digit_value d) ds)

pub number_goes_on : (n m d : ℕ) (ds : List ℕ) → Some m ≡ with_digit n d → number_after long_bound n (d ∷ ds) ≡ number_after long_bound m ds
number_goes_on n m d ds more = grind (arith, nat_tests)

pub number_stops : (n d : ℕ) (ds : List ℕ) → None ≡ with_digit n d → number_after long_bound n (d ∷ ds) ≡ None
number_stops n d ds stop = let grows = value_grows (n * 10 + digit_value d) ds in grind (arith, nat_tests)

own : IsNumeralModel (λ ds. all_ascii_digits ds ≡ true) (digits_value 10)
own = numerals_by_value _ tells_all_ascii_digits

decimals_below : (bound : ℕ) → bound ≤ long_bound → (n : ℕ) → n < bound → number_below bound (decimal n) ≡ Some n
decimals_below bound short n small =
    let fits : n < 2 ^ 64 = omega arith in
    let digits = digits_decimal own n fits in
    let value = digits_value-decimal own n fits in
    let some = decimal_nonempty n fits in
    grind (arith, nat_tests)

pub decimals_read : DecimalsRead
unfolding number_of
decimals_read = decimals_below number_bound (omega arith)

pub long_decimals_read : LongDecimalsRead
unfolding long_of
long_decimals_read = decimals_below long_bound (omega arith)

-- what the goals of `read_number` and `read_long` want
pub ruleset digits = (number_goes_on, decimals_read, long_decimals_read)

pub decimal_digits : (n : ℕ) → n < long_bound → all_ascii_digits (decimal n) ≡ true
decimal_digits n small = digits_decimal own n small

pub decimal_not_empty : (n : ℕ) → n < long_bound → 0 < length (decimal n)
decimal_not_empty n small = decimal_nonempty n small
