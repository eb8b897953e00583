-- What the last words of an entry's line say of the buffers that a call is lent.
use Rattle.std.specs.Prelude.{ℕ, ◌<◌, if◌then◌else◌, codes, decimal, List, [], ◌∷◌, Some, None, Ok, Err, Option, Result}
use Rattle.texts.specs.Numerals.{number_bound}
use Rattle.script.specs.Words.{Left, fault_at, place_after, and_then, with_number, with_end, spelt}
use Rattle.script.specs.declared.faults.Expected.{Expected}
use Rattle.script.specs.declared.faults.Expected.TheVariants.{Out, Scratch, Length}
use Rattle.script.specs.declared.faults.Fault.{Fault}
use Rattle.script.specs.declared.lengths.Lengths.{Lengths}

-- nothing, or a length behind its name, and the line's end
abbrev length_by : List ℕ → Expected → ℕ → List (List ℕ) → Result (Option ℕ) Fault
length_by name what place [] = Ok None
length_by name what place (w ∷ ws) =
    if spelt name w then with_number (record { place = place_after place; words = ws }) (λ length left. with_end left (Some length))
    else Err (fault_at place what)

unfoldable pub length_of : List ℕ → Expected → Left → Result (Option ℕ) Fault
length_of name what left = length_by name what left.place left.words

abbrev pub out_of : Left → Result (Option ℕ) Fault
out_of = length_of (codes "out") Out

abbrev pub scratch_of : Left → Result (Option ℕ) Fault
scratch_of = length_of (codes "scratch") Scratch

-- the two in either order, each at most once
abbrev lengths_by : ℕ → List (List ℕ) → Result Lengths Fault
lengths_by place [] = Ok (record { out = None; scratch = None })
lengths_by place (w ∷ ws) =
    if spelt (codes "out") w then with_number (record { place = place_after place; words = ws }) (λ out left. and_then (scratch_of left) (λ scratch. Ok (record { out = Some out; scratch = scratch })))
    else (if spelt (codes "scratch") w then with_number (record { place = place_after place; words = ws }) (λ scratch left. and_then (out_of left) (λ out. Ok (record { out = out; scratch = Some scratch })))
    else Err (fault_at place Length))

unfoldable pub lengths_of : Left → Result Lengths Fault
lengths_of left = lengths_by left.place left.words

-- a length as it is written: behind its name, or not at all
abbrev pub length_words : List ℕ → Option ℕ → List (List ℕ)
length_words name None = []
length_words name (Some length) = name ∷ decimal length ∷ []

abbrev pub out_words : Option ℕ → List (List ℕ)
out_words = length_words (codes "out")

abbrev pub scratch_words : Option ℕ → List (List ℕ)
scratch_words = length_words (codes "scratch")

-- a length that its type holds
abbrev pub LengthFits : Option ℕ → Type 0
LengthFits None = Unit
LengthFits (Some length) = length < number_bound
