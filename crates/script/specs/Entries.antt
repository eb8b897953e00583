-- What the words of an entry line say.
use Rattle.std.specs.Prelude.{◌≡◌, ℕ, ◌<◌, if◌then◌else◌, codes, List, [], ◌∷◌, map, Some, None, Ok, Err, decimal, Option, Result}
use Rattle.std.specs.List.{AllByRecursion, join_with_byte}
use Rattle.terms.specs.declared.requests.Request.{Request}
use Rattle.texts.specs.Cutting.{words_of}
use Rattle.texts.specs.Numerals.{number_bound}
use Rattle.script.specs.Words.{Left, fault_at, behind_first, and_then, with_number, with_end, spelt}
use Rattle.script.specs.declared.entries.Entry.{Entry}
use Rattle.script.specs.declared.entries.Entry.TheVariants.{Apply}
use Rattle.script.specs.declared.faults.Expected.TheVariants.{Entry as NoEntry}
use Rattle.script.specs.declared.faults.Fault.{Fault}

-- five numbers
unfoldable pub request_at : Left → Result Request Fault
request_at left =
    with_number left (λ client left₁.
    with_number left₁ (λ sequence left₂.
    with_number left₂ (λ code left₃.
    with_number left₃ (λ key left₄.
    with_number left₄ (λ value left₅.
    Ok (record { client = client; sequence = sequence; code = code; key = key; value = value }))))))

-- what is left behind them
abbrev pub behind_request : Left → Left
behind_request left = behind_first (behind_first (behind_first (behind_first (behind_first left))))

-- a request, and the line's end
unfoldable pub request_of : Left → Result Request Fault
request_of left = and_then (request_at left) (λ request. with_end (behind_request left) request)

-- no words say nothing; `apply CLIENT SEQUENCE CODE KEY VALUE` asks for a request
abbrev pub entry_of : List (List ℕ) → Result (Option Entry) Fault
entry_of [] = Ok None
entry_of (w ∷ ws) =
    if spelt (codes "apply") w then and_then (request_of (record { place = 2; words = ws })) (λ request. Ok (Some (Apply request)))
    else Err (fault_at 1 NoEntry)

-- the word that an entry begins with
abbrev pub name_of : Entry → List ℕ
name_of (Apply request) = codes "apply"

-- the numbers of a request and of an entry in the order in which they are written
abbrev pub request_numbers : Request → List ℕ
request_numbers request = request.client ∷ request.sequence ∷ request.code ∷ request.key ∷ request.value ∷ []

abbrev pub numbers_of : Entry → List ℕ
numbers_of (Apply request) = request_numbers request

-- an entry as it is written: its name and its numbers in decimal, with one space between them
abbrev pub written : Entry → List ℕ
written entry = join_with_byte 32 (name_of entry ∷ map decimal (numbers_of entry))

-- an entry that is written reads as itself
abbrev pub EntriesReadBack : Type 0
EntriesReadBack = (entry : Entry) → AllByRecursion (λ n. n < number_bound) (numbers_of entry) → entry_of (words_of (written entry)) ≡ Ok (Some entry)
