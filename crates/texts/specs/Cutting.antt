-- How a text is cut into lines, and a line into words.
use Rattle.std.specs.Prelude.{◌≡◌, ℕ, ◌<◌, Bool, true, false, if◌then◌else◌, not, ◌||◌, filter, nat_lt, List, [], ◌∷◌, ◌++◌, length, drop, Some, None, Option, ◌==◌}
use Rattle.std.specs.List.{flat_map, position_or_len, before_first, after_first, onto_first, slice_split, join_with_byte, AllByRecursion}

-- space, tab, carriage return, vertical tab, form feed
abbrev pub is_blank : ℕ → Bool
is_blank b = b == 32 || (b == 9 || (b == 13 || (b == 11 || b == 12)))

abbrev pub not_blank : ℕ → Bool
not_blank b = not (is_blank b)

-- a comment's beginning
abbrev pub is_hash : ℕ → Bool
is_hash b = b == 35

abbrev pub is_line_end : ℕ → Bool
is_line_end b = b == 10

-- a word ends before a blank or a comment
abbrev pub ends_word : ℕ → Bool
ends_word b = is_blank b || is_hash b

-- the answers of a closure are those of a test
abbrev pub Computes : (ℕ → Bool → Type 0) → (ℕ → Bool) → Type 0
Computes post test = (b : ℕ) (answer : Bool) → post b answer → answer ≡ test b

-- what is left from the first byte on at which a test passes
abbrev pub from_first : (ℕ → Bool) → List ℕ → List ℕ
from_first test bs = drop (position_or_len test bs) bs

-- the first item, if there is one
abbrev pub first_of : List (List ℕ) → Option (List ℕ)
first_of [] = None
first_of (item ∷ items) = Some item

-- the first line, and what follows its end
abbrev pub first_line : List ℕ → Option (List ℕ × List ℕ)
first_line text = if length text == 0 then None else Some (before_first is_line_end text, after_first is_line_end text)

-- all lines of a text: each line end closes one, and what is left behind the last is a line too
unfoldable pub lines_of : List ℕ → List (List ℕ)
lines_of [] = []
lines_of (b ∷ bs) = if is_line_end b then [] ∷ lines_of bs else onto_first b (lines_of bs)

-- a first line and the lines behind it
abbrev pub lines_by : Option (List ℕ × List ℕ) → List (List ℕ)
lines_by None = []
lines_by (Some p) = p.0 ∷ lines_of p.1

-- lines, each with its end
abbrev pub ended : List (List ℕ) → List ℕ
ended lines = flat_map (λ line. line ++ (10 ∷ [])) lines

-- lines with their ends are cut back into themselves
abbrev pub LinesCutBack : Type 0
LinesCutBack = (lines : List (List ℕ)) → AllByRecursion (λ line. AllByRecursion (λ b. is_line_end b ≡ false) line) lines → lines_of (ended lines) ≡ lines

-- behind the blanks, the first word and what follows it
abbrev pub word_then : List ℕ → Option (List ℕ × List ℕ)
word_then rest = if length (before_first ends_word rest) == 0 then None else Some (before_first ends_word rest, from_first ends_word rest)

abbrev pub first_word : List ℕ → Option (List ℕ × List ℕ)
first_word line = word_then (from_first not_blank line)

-- all words of a line: the line without its comment, cut at every blank, without the empty pieces
unfoldable pub words_of : List ℕ → List (List ℕ)
words_of line = filter (λ piece. nat_lt 0 (length piece)) (slice_split is_blank (before_first is_hash line))

-- a first word and the words behind it
abbrev pub words_by : Option (List ℕ × List ℕ) → List (List ℕ)
words_by None = []
words_by (Some p) = p.0 ∷ words_of p.1

-- a word has a byte, and neither a blank nor a comment's beginning
abbrev pub IsWord : List ℕ → Type 0
IsWord w = (0 < length w) × AllByRecursion (λ b. ends_word b ≡ false) w

-- words with one blank between them are cut back into themselves
abbrev pub WordsCutBack : Type 0
WordsCutBack = (blank : ℕ) (ws : List (List ℕ)) → is_blank blank ≡ true → AllByRecursion IsWord ws → words_of (join_with_byte blank ws) ≡ ws
