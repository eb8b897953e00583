-- What the words of a group's entry say of a replica's call.
use Rattle.std.specs.Prelude.{ℕ, ◌<◌, decimal, map, List, [], ◌∷◌, ◌++◌, Ok, Result}
use Rattle.std.specs.List.{AllByRecursion}
use Rattle.texts.specs.Numerals.{number_bound}
use Rattle.script.specs.Bytes.{bytes_at, bytes_word, BytesFit}
use Rattle.script.specs.Entries.{request_at, behind_request, request_numbers}
use Rattle.script.specs.Lengths.{out_of, lengths_of, out_words, scratch_words, LengthFits}
use Rattle.script.specs.Words.{Left, and_then, with_word, with_number, with_end}
use Rattle.script.specs.declared.faults.Fault.{Fault}
use Rattle.script.specs.declared.group_calls.Asked.{Asked}
use Rattle.script.specs.declared.group_calls.Taken.{Taken}
use Rattle.script.specs.declared.group_calls.Called.{Called}
use Rattle.script.specs.declared.group_calls.Marked.{Marked}

-- a seat, a request, and a length
unfoldable pub asked_of : Left → Result Asked Fault
asked_of left =
    with_number left (λ seat left₁.
    and_then (request_at left₁) (λ request.
    and_then (out_of (behind_request left₁)) (λ out.
    Ok (record { seat = seat; request = request; out = out }))))

-- a seat, bytes, and the line's end
unfoldable pub taken_of : Left → Result Taken Fault
taken_of left =
    with_number left (λ seat left₁.
    with_word bytes_at left₁ (λ bytes left₂.
    with_end left₂ (record { seat = seat; bytes = bytes })))

-- a seat, and a length
unfoldable pub called_of : Left → Result Called Fault
called_of left =
    with_number left (λ seat left₁.
    and_then (out_of left₁) (λ out.
    Ok (record { seat = seat; out = out })))

-- a seat, and two lengths
unfoldable pub marked_of : Left → Result Marked Fault
marked_of left =
    with_number left (λ seat left₁.
    and_then (lengths_of left₁) (λ lengths.
    Ok (record { seat = seat; lengths = lengths })))

-- each as it is written: its words in order
abbrev pub asked_words : Asked → List (List ℕ)
asked_words a = decimal a.seat ∷ (map decimal (request_numbers a.request) ++ out_words a.out)

abbrev pub taken_words : Taken → List (List ℕ)
taken_words t = decimal t.seat ∷ bytes_word t.bytes ∷ []

abbrev pub called_words : Called → List (List ℕ)
called_words c = decimal c.seat ∷ out_words c.out

-- `out` first
abbrev pub marked_words : Marked → List (List ℕ)
marked_words m = decimal m.seat ∷ (out_words m.lengths.out ++ scratch_words m.lengths.scratch)

-- `scratch` first
abbrev pub turned_words : Marked → List (List ℕ)
turned_words m = decimal m.seat ∷ (scratch_words m.lengths.scratch ++ out_words m.lengths.out)

-- numbers and bytes are those that their types hold
abbrev pub AskedFits : Asked → Type 0
AskedFits a = (a.seat < number_bound) × AllByRecursion (λ n. n < number_bound) (request_numbers a.request) × LengthFits a.out

abbrev pub TakenFits : Taken → Type 0
TakenFits t = (t.seat < number_bound) × BytesFit t.bytes

abbrev pub CalledFits : Called → Type 0
CalledFits c = (c.seat < number_bound) × LengthFits c.out

abbrev pub MarkedFits : Marked → Type 0
MarkedFits m = (m.seat < number_bound) × LengthFits m.lengths.out × LengthFits m.lengths.scratch
