-- What a word of decimal digits writes.
use Rattle.std.specs.Prelude.{◌≡◌, ℕ, ◌+◌, ◌*◌, ◌<◌, if◌then◌else◌, ◌&&◌, List, length, Some, None, decimal, Option, nat_lt}
use Rattle.std.specs.Char.{is_ascii_digit, digit_value}
use Rattle.std.specs.Str.{all_ascii_digits}
use Rattle.std.specs.Str.Parse.{digits_value_after}

-- a number must be below the first, and a long number below the second
abbrev pub number_bound : ℕ
number_bound = 4294967296

abbrev pub long_bound : ℕ
long_bound = 18446744073709551616

-- digits behind a number so far, if they are digits and the value keeps below the bound
abbrev pub number_after : ℕ → ℕ → List ℕ → Option ℕ
number_after bound n ds = if all_ascii_digits ds && nat_lt (digits_value_after 10 n ds) bound then Some (digits_value_after 10 n ds) else None

-- one digit more
abbrev pub with_digit : ℕ → ℕ → Option ℕ
with_digit n d = if is_ascii_digit d && nat_lt (n * 10 + digit_value d) long_bound then Some (n * 10 + digit_value d) else None

-- one digit or more, and nothing else
abbrev pub number_below : ℕ → List ℕ → Option ℕ
number_below bound word = if nat_lt 0 (length word) then number_after bound 0 word else None

unfoldable pub number_of : List ℕ → Option ℕ
number_of word = number_below number_bound word

unfoldable pub long_of : List ℕ → Option ℕ
long_of word = number_below long_bound word

-- numbers in decimal read as themselves
abbrev pub DecimalsRead : Type 0
DecimalsRead = (n : ℕ) → n < number_bound → number_of (decimal n) ≡ Some n

abbrev pub LongDecimalsRead : Type 0
LongDecimalsRead = (n : ℕ) → n < long_bound → long_of (decimal n) ≡ Some n
