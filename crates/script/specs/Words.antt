-- A line's words read from the left: each at its place, up to the first fault.
use Rattle.std.specs.Prelude.{◌≡◌, ℕ, ◌+◌, min, Bool, List, [], ◌∷◌, drop, Ok, Err, Option, Result}
use Rattle.std.specs.Option.{ok_or, option_map, option_and_then}
use Rattle.std.specs.Borrow.{Bor}
use Rattle.std.specs.Str.{bytes_eq}
use Rattle.texts.specs.Cutting.{first_of}
use Rattle.texts.specs.Numerals.{number_of, long_of}
use Rattle.script.specs.declared.faults.Expected.{Expected}
use Rattle.script.specs.declared.faults.Expected.TheVariants.{Number, Long, EndOfLine}
use Rattle.script.specs.declared.faults.Fault.{Fault}

-- the words that are still to come, and the place of the first of them in the line
pub record Left : Type 0 where
  pub place : ℕ
  pub words : List (List ℕ)

abbrev pub fault_at : ℕ → Expected → Fault
fault_at place what = record { word = place; expected = what }

-- the next place
abbrev pub place_after : ℕ → ℕ
place_after place = min (place + 1) 4294967295

-- what is left behind the first word
abbrev pub behind_first : Left → Left
behind_first left = record { place = place_after left.place; words = drop 1 left.words }

-- a call of `next` gives the first word, if there is one, and goes on behind it
abbrev pub NextWord : Left → Option (Bor (List ℕ)) → Left → Type 0
NextWord s r t = (option_map (λ word. word.now) r ≡ first_of s.words) × (t ≡ behind_first s)

-- the word is this one
unfoldable pub spelt : List ℕ → List ℕ → Bool
spelt text word = bytes_eq word text

-- the first word, which must be read as what is expected
abbrev pub read_at : {X : Type 0} → Expected → (List ℕ → Option X) → Left → Result X Fault
read_at what read left = ok_or (option_and_then read (first_of left.words)) (fault_at left.place what)

abbrev pub number_at : Left → Result ℕ Fault
number_at = read_at Number number_of

abbrev pub long_at : Left → Result ℕ Fault
long_at = read_at Long long_of

-- what follows is read only if there was no fault
abbrev pub and_then : {X Y : Type 0} → Result X Fault → (X → Result Y Fault) → Result Y Fault
and_then (Ok x) next = next x
and_then (Err fault) next = Err fault

-- what the first word says, and what follows behind it
abbrev pub with_word : {X Y : Type 0} → (Left → Result X Fault) → Left → (X → Left → Result Y Fault) → Result Y Fault
with_word said left next = and_then (said left) (λ x. next x (behind_first left))

abbrev pub with_number : {Y : Type 0} → Left → (ℕ → Left → Result Y Fault) → Result Y Fault
with_number = with_word number_at

abbrev pub with_long : {Y : Type 0} → Left → (ℕ → Left → Result Y Fault) → Result Y Fault
with_long = with_word long_at

-- the line ends here, and this is what it said
abbrev pub end_at : {Y : Type 0} → ℕ → List (List ℕ) → Y → Result Y Fault
end_at place [] said = Ok said
end_at place (w ∷ ws) said = Err (fault_at place EndOfLine)

abbrev pub with_end : {Y : Type 0} → Left → Y → Result Y Fault
with_end left said = end_at left.place left.words said
