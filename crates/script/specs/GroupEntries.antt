-- What the words of a group's entry line say.
use Rattle.std.specs.Prelude.{◌≡◌, ℕ, ◌<◌, codes, decimal, List, [], ◌∷◌, Some, None, Ok, Option, Result}
use Rattle.std.specs.List.{join_with_byte}
use Rattle.std.specs.Option.{ok_or}
use Rattle.texts.specs.Cutting.{words_of}
use Rattle.texts.specs.Numerals.{number_bound, long_bound}
use Rattle.script.specs.CounterEntries.{kind_at, kind_word, certify_of, certify_words, CertifyFits}
use Rattle.script.specs.GroupCalls.{asked_of, taken_of, called_of, marked_of, asked_words, taken_words, called_words, marked_words, turned_words, AskedFits, TakenFits, CalledFits, MarkedFits}
use Rattle.script.specs.Verbs.{verb_word, verb_of}
use Rattle.script.specs.Words.{Left, fault_at, and_then, with_word, with_number, with_long, with_end}
use Rattle.script.specs.declared.faults.Expected.TheVariants.{GroupEntry as NoGroupEntry}
use Rattle.script.specs.declared.faults.Fault.{Fault}
use Rattle.script.specs.declared.group_calls.Marked.{Marked}
use Rattle.script.specs.declared.group_entries.GroupEntry.{GroupEntry}
use Rattle.script.specs.declared.group_entries.GroupEntry.TheVariants.{Other, Used, Ask, Take, Vote, Carry, Mark, Suspect, Open, Show, Certify, Deliver, Pump}
use Rattle.script.specs.declared.group_entries.SeatCertify.{SeatCertify}
use Rattle.script.specs.declared.group_entries.UsedCounter.{UsedCounter}
use Rattle.script.specs.declared.verbs.Verb.{Verb}
use Rattle.script.specs.declared.verbs.Verb.TheVariants.{Other as OtherVerb, Used as UsedVerb, Ask as AskVerb, Take as TakeVerb, Vote as VoteVerb, Carry as CarryVerb, Mark as MarkVerb, Suspect as SuspectVerb, Open as OpenVerb, Show as ShowVerb, Certify as CertifyVerb, Deliver as DeliverVerb, Pump as PumpVerb}

-- a seat, and the line's end
unfoldable pub seat_of : Left → Result ℕ Fault
seat_of left = with_number left (λ seat left₁. with_end left₁ seat)

-- a seat, a kind, a counter, its new value, and the line's end
unfoldable pub used_of : Left → Result UsedCounter Fault
used_of left =
    with_number left (λ seat left₁.
    with_word kind_at left₁ (λ kind left₂.
    with_number left₂ (λ number left₃.
    with_long left₃ (λ value left₄.
    with_end left₄ (record { seat = seat; kind = kind; number = number; value = value })))))

-- a seat, and what a counter is asked for
unfoldable pub seat_certify_of : Left → Result SeatCertify Fault
seat_certify_of left =
    with_number left (λ seat left₁.
    and_then (certify_of left₁) (λ certify.
    Ok (record { seat = seat; certify = certify })))

-- a line's number, and the line's end
unfoldable pub line_of : Left → Result ℕ Fault
line_of left = with_long left (λ line left₁. with_end left₁ line)

-- what the words behind a verb say
abbrev said : {X : Type 0} → (X → GroupEntry) → Result X Fault → Result GroupEntry Fault
said entry words = and_then words (λ x. Ok (entry x))

unfoldable pub said_of : Verb → Left → Result GroupEntry Fault
said_of OtherVerb left = said Other (seat_of left)
said_of UsedVerb left = said Used (used_of left)
said_of AskVerb left = said Ask (asked_of left)
said_of TakeVerb left = said Take (taken_of left)
said_of VoteVerb left = said Vote (called_of left)
said_of CarryVerb left = said Carry (seat_of left)
said_of MarkVerb left = said Mark (marked_of left)
said_of SuspectVerb left = said Suspect (called_of left)
said_of OpenVerb left = said Open (called_of left)
said_of ShowVerb left = said Show (seat_of left)
said_of CertifyVerb left = said Certify (seat_certify_of left)
said_of DeliverVerb left = said Deliver (line_of left)
said_of PumpVerb left = with_end left Pump

-- no words say nothing; a verb says what is done, and the words behind it to whom and with what
abbrev pub group_entry_of : List (List ℕ) → Result (Option GroupEntry) Fault
group_entry_of [] = Ok None
group_entry_of (w ∷ ws) =
    and_then (ok_or (verb_of w) (fault_at 1 NoGroupEntry)) (λ verb.
    and_then (said_of verb (record { place = 2; words = ws })) (λ entry. Ok (Some entry)))

-- what an entry does
abbrev pub verb_for : GroupEntry → Verb
verb_for (Other said) = OtherVerb
verb_for (Used said) = UsedVerb
verb_for (Ask said) = AskVerb
verb_for (Take said) = TakeVerb
verb_for (Vote said) = VoteVerb
verb_for (Carry said) = CarryVerb
verb_for (Mark said) = MarkVerb
verb_for (Suspect said) = SuspectVerb
verb_for (Open said) = OpenVerb
verb_for (Show said) = ShowVerb
verb_for (Certify said) = CertifyVerb
verb_for (Deliver said) = DeliverVerb
verb_for Pump = PumpVerb

-- an entry as it is written: its verb and the words behind it in order, with one space between them
abbrev pub words_behind : GroupEntry → List (List ℕ)
words_behind (Other seat) = decimal seat ∷ []
words_behind (Used u) = decimal u.seat ∷ kind_word u.kind ∷ decimal u.number ∷ decimal u.value ∷ []
words_behind (Ask asked) = asked_words asked
words_behind (Take taken) = taken_words taken
words_behind (Vote called) = called_words called
words_behind (Carry seat) = decimal seat ∷ []
words_behind (Mark marked) = marked_words marked
words_behind (Suspect called) = called_words called
words_behind (Open called) = called_words called
words_behind (Show seat) = decimal seat ∷ []
words_behind (Certify c) = decimal c.seat ∷ certify_words c.certify
words_behind (Deliver line) = decimal line ∷ []
words_behind Pump = []

abbrev pub written : GroupEntry → List ℕ
written entry = join_with_byte 32 (verb_word (verb_for entry) ∷ words_behind entry)

-- numbers and bytes are those that their types hold
abbrev pub EntryFits : GroupEntry → Type 0
EntryFits (Other seat) = seat < number_bound
EntryFits (Used u) = (u.seat < number_bound) × (u.number < number_bound) × (u.value < long_bound)
EntryFits (Ask asked) = AskedFits asked
EntryFits (Take taken) = TakenFits taken
EntryFits (Vote called) = CalledFits called
EntryFits (Carry seat) = seat < number_bound
EntryFits (Mark marked) = MarkedFits marked
EntryFits (Suspect called) = CalledFits called
EntryFits (Open called) = CalledFits called
EntryFits (Show seat) = seat < number_bound
EntryFits (Certify c) = (c.seat < number_bound) × CertifyFits c.certify
EntryFits (Deliver line) = line < long_bound
EntryFits Pump = Unit

-- an entry that is written reads as itself
abbrev pub GroupEntriesReadBack : Type 0
GroupEntriesReadBack = (entry : GroupEntry) → EntryFits entry → group_entry_of (words_of (written entry)) ≡ Ok (Some entry)

-- and so does a mark whose two lengths stand in the other order
abbrev pub TurnedMarksReadBack : Type 0
TurnedMarksReadBack = (m : Marked) → MarkedFits m → group_entry_of (words_of (join_with_byte 32 (codes "mark" ∷ turned_words m))) ≡ Ok (Some (Mark m))
