-- What the words of a counter's entry line say.
use Rattle.std.specs.Prelude.{◌≡◌, ℕ, ◌<◌, if◌then◌else◌, codes, List, [], ◌∷◌, Some, None, Ok, Err, decimal, Option, Result}
use Rattle.std.specs.List.{join_with_byte}
use Rattle.counter.specs.declared.kinds.Kind.{Kind}
use Rattle.counter.specs.declared.kinds.Kind.TheVariants.{Continuing, Independent}
use Rattle.texts.specs.Cutting.{words_of}
use Rattle.texts.specs.Numerals.{number_bound, long_bound}
use Rattle.script.specs.Bytes.{bytes_at, bytes_word, BytesFit}
use Rattle.script.specs.Words.{Left, fault_at, read_at, and_then, with_word, with_number, with_long, with_end, spelt}
use Rattle.script.specs.declared.counter_entries.Certify.{Certify}
use Rattle.script.specs.declared.counter_entries.Claim.{Claim}
use Rattle.script.specs.declared.counter_entries.CounterEntry.{CounterEntry}
use Rattle.script.specs.declared.counter_entries.CounterEntry.TheVariants.{Certify as Certifies, Value, Check}
use Rattle.script.specs.declared.faults.Expected.TheVariants.{CounterEntry as NoCounterEntry, Kind as NoKind}
use Rattle.script.specs.declared.faults.Fault.{Fault}

-- the word that names a kind of certificates
abbrev pub kind_word : Kind → List ℕ
kind_word Continuing = codes "continuing"
kind_word Independent = codes "independent"

-- the kind that a word names
abbrev pub kind_of : List ℕ → Option Kind
kind_of w = if spelt (kind_word Continuing) w then Some Continuing else (if spelt (kind_word Independent) w then Some Independent else None)

abbrev pub kind_at : Left → Result Kind Fault
kind_at = read_at NoKind kind_of

-- a kind, a counter, its new value, a message, and the line's end
unfoldable pub certify_of : Left → Result Certify Fault
certify_of left =
    with_word kind_at left (λ kind left₁.
    with_number left₁ (λ number left₂.
    with_long left₂ (λ value left₃.
    with_word bytes_at left₃ (λ message left₄.
    with_end left₄ (record { kind = kind; number = number; value = value; message = message })))))

-- a counter, and the line's end
unfoldable pub value_of : Left → Result ℕ Fault
value_of left = with_number left (λ number left₁. with_end left₁ number)

-- a statement's kind, seat, counter, new and old value and message, a tag, and the line's end
unfoldable pub claim_of : Left → Result Claim Fault
claim_of left =
    with_number left (λ kind left₁.
    with_number left₁ (λ seat left₂.
    with_number left₂ (λ number left₃.
    with_long left₃ (λ new left₄.
    with_long left₄ (λ old left₅.
    with_word bytes_at left₅ (λ message left₆.
    with_word bytes_at left₆ (λ tag left₇.
    with_end left₇ (record { kind = kind; seat = seat; number = number; new = new; old = old; message = message; tag = tag }))))))))

-- no words say nothing; `certify KIND NUMBER VALUE BYTES` asks for a certificate, `value NUMBER` for a value, and
-- `check KIND SEAT NUMBER NEW OLD BYTES TAG` whether a tag is right
abbrev pub counter_entry_of : List (List ℕ) → Result (Option CounterEntry) Fault
counter_entry_of [] = Ok None
counter_entry_of (w ∷ ws) =
    if spelt (codes "certify") w then and_then (certify_of (record { place = 2; words = ws })) (λ certify. Ok (Some (Certifies certify)))
    else (if spelt (codes "value") w then and_then (value_of (record { place = 2; words = ws })) (λ number. Ok (Some (Value number)))
    else (if spelt (codes "check") w then and_then (claim_of (record { place = 2; words = ws })) (λ claim. Ok (Some (Check claim)))
    else Err (fault_at 1 NoCounterEntry)))

-- an entry as it is written: its words in order, with one space between them
abbrev pub certify_words : Certify → List (List ℕ)
certify_words c = kind_word c.kind ∷ decimal c.number ∷ decimal c.value ∷ bytes_word c.message ∷ []

abbrev pub entry_words : CounterEntry → List (List ℕ)
entry_words (Certifies c) = codes "certify" ∷ certify_words c
entry_words (Value number) = codes "value" ∷ decimal number ∷ []
entry_words (Check c) = codes "check" ∷ decimal c.kind ∷ decimal c.seat ∷ decimal c.number ∷ decimal c.new ∷ decimal c.old ∷ bytes_word c.message ∷ bytes_word c.tag ∷ []

abbrev pub written : CounterEntry → List ℕ
written entry = join_with_byte 32 (entry_words entry)

-- numbers and bytes are those that their types hold
abbrev pub CertifyFits : Certify → Type 0
CertifyFits c = (c.number < number_bound) × (c.value < long_bound) × BytesFit c.message

abbrev pub EntryFits : CounterEntry → Type 0
EntryFits (Certifies c) = CertifyFits c
EntryFits (Value number) = number < number_bound
EntryFits (Check c) = (c.kind < number_bound) × (c.seat < number_bound) × (c.number < number_bound) × (c.new < long_bound) × (c.old < long_bound) × BytesFit c.message × BytesFit c.tag

-- an entry that is written reads as itself
abbrev pub CounterEntriesReadBack : Type 0
CounterEntriesReadBack = (entry : CounterEntry) → EntryFits entry → counter_entry_of (words_of (written entry)) ≡ Ok (Some entry)
