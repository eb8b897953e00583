-- What the words of a header line say.
use Rattle.std.specs.Prelude.{◌≡◌, ℕ, ◌<◌, if◌then◌else◌, codes, decimal, List, [], ◌∷◌, ◌++◌, Some, None, Ok, Err, Option, Result}
use Rattle.std.specs.List.{join_with_byte}
use Rattle.std.specs.Option.{ok_or}
use Rattle.texts.specs.Cutting.{first_of, words_of}
use Rattle.texts.specs.Numerals.{number_bound}
use Rattle.script.specs.Keys.{key_at, key_words, KeyFits}
use Rattle.script.specs.Words.{Left, fault_at, read_at, behind_first, and_then, with_number, with_end, spelt}
use Rattle.script.specs.declared.faults.Expected.{Expected}
use Rattle.script.specs.declared.faults.Expected.TheVariants.{Header as NoHeader, Service as NoService, PlainService}
use Rattle.script.specs.declared.faults.Fault.{Fault}
use Rattle.script.specs.declared.headers.CounterHeader.{CounterHeader}
use Rattle.script.specs.declared.headers.GroupHeader.{GroupHeader}
use Rattle.script.specs.declared.headers.Header.{Header}
use Rattle.script.specs.declared.headers.Header.TheVariants.{Register, Counter, Mail, Group}
use Rattle.script.specs.declared.headers.RegisterKind.{RegisterKind}
use Rattle.script.specs.declared.headers.RegisterKind.TheVariants.{Glyphs, Release}
use Rattle.script.specs.declared.headers.ServiceKind.{ServiceKind}
use Rattle.script.specs.declared.headers.ServiceKind.TheVariants.{Alone, Sessions}

-- the word that names a register
abbrev pub register_word : RegisterKind → List ℕ
register_word Glyphs = codes "glyphs"
register_word Release = codes "release"

-- the register that a word names
abbrev pub register_of : List ℕ → Option RegisterKind
register_of w = if spelt (register_word Glyphs) w then Some Glyphs else (if spelt (register_word Release) w then Some Release else None)

-- a register that makes a service, and nothing behind it
abbrev pub register_at : Expected → (RegisterKind → ServiceKind) → Left → Result ServiceKind Fault
register_at what service left = and_then (read_at what register_of left) (λ register. with_end (behind_first left) (service register))

-- behind the word `sessions`
abbrev pub sessions_of : Left → Result ServiceKind Fault
sessions_of = register_at PlainService Sessions

-- a service, and nothing behind it
unfoldable pub service_of : Left → Result ServiceKind Fault
service_of left =
    and_then (ok_or (first_of left.words) (fault_at left.place NoService)) (λ w.
    if spelt (codes "sessions") w then sessions_of (behind_first left) else register_at NoService Alone left)

-- the numbers of seats and of the seat, a kind and its key
unfoldable pub counter_of : Left → Result CounterHeader Fault
counter_of left =
    with_number left (λ seats left₁.
    with_number left₁ (λ seat left₂.
    and_then (key_at left₂) (λ key.
    with_end (behind_first (behind_first left₂)) (record { seats = seats; seat = seat; key = key }))))

-- the number of seats, a kind and its key, and a service
unfoldable pub group_of : Left → Result GroupHeader Fault
group_of left =
    with_number left (λ seats left₁.
    and_then (key_at left₁) (λ key.
    and_then (service_of (behind_first (behind_first left₁))) (λ service.
    Ok (record { seats = seats; key = key; service = service }))))

-- no words say nothing; `register SERVICE` names a service, `counter N SEAT KIND KEY` a counter; `mail` stands alone;
-- `group N KIND KEY SERVICE` names a group
abbrev pub header_of : List (List ℕ) → Result (Option Header) Fault
header_of [] = Ok None
header_of (w ∷ ws) =
    if spelt (codes "register") w then and_then (service_of (record { place = 2; words = ws })) (λ service. Ok (Some (Register service)))
    else (if spelt (codes "counter") w then and_then (counter_of (record { place = 2; words = ws })) (λ counter. Ok (Some (Counter counter)))
    else (if spelt (codes "mail") w then with_end (record { place = 2; words = ws }) (Some Mail)
    else (if spelt (codes "group") w then and_then (group_of (record { place = 2; words = ws })) (λ group. Ok (Some (Group group)))
    else Err (fault_at 1 NoHeader))))

-- a header as it is written: its words in order, with one space between them
abbrev pub service_words : ServiceKind → List (List ℕ)
service_words (Alone register) = register_word register ∷ []
service_words (Sessions register) = codes "sessions" ∷ register_word register ∷ []

abbrev pub header_words : Header → List (List ℕ)
header_words (Register service) = codes "register" ∷ service_words service
header_words (Counter counter) = codes "counter" ∷ decimal counter.seats ∷ decimal counter.seat ∷ key_words counter.key
header_words Mail = codes "mail" ∷ []
header_words (Group group) = codes "group" ∷ decimal group.seats ∷ (key_words group.key ++ service_words group.service)

abbrev pub written : Header → List ℕ
written header = join_with_byte 32 (header_words header)

-- numbers and keys are those that their types hold
abbrev pub HeaderFits : Header → Type 0
HeaderFits (Register service) = Unit
HeaderFits (Counter counter) = (counter.seats < number_bound) × (counter.seat < number_bound) × KeyFits counter.key
HeaderFits Mail = Unit
HeaderFits (Group group) = (group.seats < number_bound) × KeyFits group.key

-- a header that is written reads as itself
abbrev pub HeadersReadBack : Type 0
HeadersReadBack = (header : Header) → HeaderFits header → header_of (words_of (written header)) ≡ Ok (Some header)
