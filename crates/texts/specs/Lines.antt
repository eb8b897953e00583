-- What is left of a text, line by line.
use Rattle.std.specs.Prelude.{◌≡◌, ℕ, ◌+◌, ◌<◌, min, if◌then◌else◌, true, List, [], ◌∷◌, length, drop, Option, is_some}
use Rattle.std.specs.Iterator.{YieldsFirstBy}
use Rattle.std.specs.Borrow.{Bor}
use Rattle.std.specs.Option.{option_map}
use Rattle.texts.specs.Cutting.{first_of, lines_of}
use Rattle.texts.specs.declared.lines.Lines.{Lines}

-- one more, up to the largest number of 64 bits
abbrev pub one_more : ℕ → ℕ
one_more count = min (count + 1) 18446744073709551615

-- lines behind that of a number, each with its own; at the largest number they stay
abbrev pub numbered : ℕ → List (List ℕ) → List (ℕ × List ℕ)
numbered n [] = []
numbered n (line ∷ lines) = (one_more n, line) ∷ numbered (one_more n) lines

abbrev pub lines_left : Lines → List (ℕ × List ℕ)
lines_left lines = numbered lines.number (lines_of lines.rest.now)

-- a call of `next` gives the first line that is left, with its number, and leaves the others, in fewer bytes; behind the
-- last line the number stays
abbrev pub NextLine : Lines → Option (ℕ × Bor (List ℕ)) → Lines → Type 0
NextLine s r t =
    YieldsFirstBy (λ p. (p.0, p.1.now)) lines_left s r t
    × (option_map (λ p. p.1.now) r ≡ first_of (lines_of s.rest.now))
    × (lines_of t.rest.now ≡ drop 1 (lines_of s.rest.now))
    × (t.number ≡ (if is_some r then one_more s.number else s.number))
    × (is_some r ≡ true → length t.rest.now < length s.rest.now)
