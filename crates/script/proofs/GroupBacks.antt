-- What is written of a group reads as itself.
use Rattle.std.proofs.Common.{◌≡◌, ℕ, ◌<◌, List, [], ◌∷◌, codes, Some, Ok, decimal, refl, ap, ◌∙◌}
use Rattle.std.specs.List.{AllByRecursion}
use Rattle.texts.proofs.Digits.{decimals_read, long_decimals_read}
use Rattle.texts.proofs.Pieces.{words_cut_back}
use Rattle.texts.specs.Cutting.{IsWord}
use Rattle.texts.specs.Numerals.{number_bound, long_bound}
use Rattle.script.proofs.CallBacks.{asked_is_words, asked_reads, taken_is_words, taken_reads, called_is_words, called_reads, marked_is_words, marked_reads, turned_is_words, turned_marked_reads}
use Rattle.script.proofs.CounterBacks.{certify_is_words, certify_reads, kind_is_word, kind_reads}
use Rattle.script.proofs.Written.{decimal_is_word, number_is_word, text_is_word}
use Rattle.script.specs.GroupCalls.{turned_words}
use Rattle.script.specs.GroupEntries.{group_entry_of, said_of, seat_of, used_of, seat_certify_of, line_of, verb_for, words_behind, EntryFits, GroupEntriesReadBack, TurnedMarksReadBack}
use Rattle.script.specs.Verbs.{verb_word, verb_of}
use Rattle.script.specs.Words.{spelt}
use Rattle.script.specs.declared.group_entries.GroupEntry.{GroupEntry}
use Rattle.script.specs.declared.group_entries.GroupEntry.TheVariants.{Other, Used, Ask, Take, Vote, Carry, Mark, Suspect, Open, Show, Certify, Deliver, Pump}
use Rattle.script.specs.declared.group_entries.SeatCertify.{SeatCertify}
use Rattle.script.specs.declared.group_entries.UsedCounter.{UsedCounter}
use Rattle.script.specs.declared.verbs.Verb.{Verb}
use Rattle.script.specs.declared.verbs.Verb.TheVariants.{Other as OtherVerb, Used as UsedVerb, Ask as AskVerb, Take as TakeVerb, Vote as VoteVerb, Carry as CarryVerb, Mark as MarkVerb, Suspect as SuspectVerb, Open as OpenVerb, Show as ShowVerb, Certify as CertifyVerb, Deliver as DeliverVerb, Pump as PumpVerb}

-- a verb's word is a word, and reads as the verb
verb_is_word : (verb : Verb) → IsWord (verb_word verb)
verb_is_word OtherVerb = text_is_word (verb_word OtherVerb) refl
verb_is_word UsedVerb = text_is_word (verb_word UsedVerb) refl
verb_is_word AskVerb = text_is_word (verb_word AskVerb) refl
verb_is_word TakeVerb = text_is_word (verb_word TakeVerb) refl
verb_is_word VoteVerb = text_is_word (verb_word VoteVerb) refl
verb_is_word CarryVerb = text_is_word (verb_word CarryVerb) refl
verb_is_word MarkVerb = text_is_word (verb_word MarkVerb) refl
verb_is_word SuspectVerb = text_is_word (verb_word SuspectVerb) refl
verb_is_word OpenVerb = text_is_word (verb_word OpenVerb) refl
verb_is_word ShowVerb = text_is_word (verb_word ShowVerb) refl
verb_is_word CertifyVerb = text_is_word (verb_word CertifyVerb) refl
verb_is_word DeliverVerb = text_is_word (verb_word DeliverVerb) refl
verb_is_word PumpVerb = text_is_word (verb_word PumpVerb) refl

verb_reads : (verb : Verb) → verb_of (verb_word verb) ≡ Some verb
unfolding verb_of spelt
verb_reads OtherVerb = refl
verb_reads UsedVerb = refl
verb_reads AskVerb = refl
verb_reads TakeVerb = refl
verb_reads VoteVerb = refl
verb_reads CarryVerb = refl
verb_reads MarkVerb = refl
verb_reads SuspectVerb = refl
verb_reads OpenVerb = refl
verb_reads ShowVerb = refl
verb_reads CertifyVerb = refl
verb_reads DeliverVerb = refl
verb_reads PumpVerb = refl

-- a seat, and a line
seat_reads : (seat : ℕ) → seat < number_bound → seat_of (record { place = 2; words = decimal seat ∷ [] }) ≡ Ok seat
unfolding seat_of
seat_reads seat fits = simp (decimals_read seat fits)

line_reads : (line : ℕ) → line < long_bound → line_of (record { place = 2; words = decimal line ∷ [] }) ≡ Ok line
unfolding line_of
line_reads line fits = simp (long_decimals_read line fits)

-- a seat's counter
used_reads : (u : UsedCounter) → EntryFits (Used u) → used_of (record { place = 2; words = words_behind (Used u) }) ≡ Ok u
unfolding used_of
used_reads u fits = simp (decimals_read u.seat fits.0, kind_reads u.kind, decimals_read u.number fits.1, long_decimals_read u.value fits.2)

seat_certify_reads : (c : SeatCertify) → EntryFits (Certify c) → seat_certify_of (record { place = 2; words = words_behind (Certify c) }) ≡ Ok c
unfolding seat_certify_of
seat_certify_reads c fits = simp (decimals_read c.seat fits.0, certify_reads c.certify 3 fits.1)

behind_are_words : (entry : GroupEntry) → EntryFits entry → AllByRecursion IsWord (words_behind entry)
behind_are_words (Other seat) fits = (number_is_word seat fits, tt)
behind_are_words (Used u) fits = (number_is_word u.seat fits.0, (kind_is_word u.kind, (number_is_word u.number fits.1, (decimal_is_word u.value fits.2, tt))))
behind_are_words (Ask asked) fits = asked_is_words asked fits
behind_are_words (Take taken) fits = taken_is_words taken fits
behind_are_words (Vote called) fits = called_is_words called fits
behind_are_words (Carry seat) fits = (number_is_word seat fits, tt)
behind_are_words (Mark marked) fits = marked_is_words marked fits
behind_are_words (Suspect called) fits = called_is_words called fits
behind_are_words (Open called) fits = called_is_words called fits
behind_are_words (Show seat) fits = (number_is_word seat fits, tt)
behind_are_words (Certify c) fits = (number_is_word c.seat fits.0, certify_is_words c.certify fits.1)
behind_are_words (Deliver line) fits = (decimal_is_word line fits, tt)
behind_are_words Pump fits = tt

said_reads : (entry : GroupEntry) → EntryFits entry → said_of (verb_for entry) (record { place = 2; words = words_behind entry }) ≡ Ok entry
unfolding said_of
said_reads (Other seat) fits = simp (seat_reads seat fits)
said_reads (Used u) fits = simp (used_reads u fits)
said_reads (Ask asked) fits = simp (asked_reads asked fits)
said_reads (Take taken) fits = simp (taken_reads taken fits)
said_reads (Vote called) fits = simp (called_reads called fits)
said_reads (Carry seat) fits = simp (seat_reads seat fits)
said_reads (Mark marked) fits = simp (marked_reads marked fits)
said_reads (Suspect called) fits = simp (called_reads called fits)
said_reads (Open called) fits = simp (called_reads called fits)
said_reads (Show seat) fits = simp (seat_reads seat fits)
said_reads (Certify c) fits = simp (seat_certify_reads c fits)
said_reads (Deliver line) fits = simp (line_reads line fits)
said_reads Pump fits = refl

-- a verb and what the words behind it say
entry_reads : (verb : Verb) (words : List (List ℕ)) {entry : GroupEntry} → said_of verb (record { place = 2; words = words }) ≡ Ok entry → group_entry_of (verb_word verb ∷ words) ≡ Ok (Some entry)
entry_reads verb words said = simp (verb_reads verb, said)

pub group_entries_read_back : GroupEntriesReadBack
group_entries_read_back entry fits =
    ap group_entry_of (words_cut_back 32 (verb_word (verb_for entry) ∷ words_behind entry) refl (verb_is_word (verb_for entry), behind_are_words entry fits))
    ∙ entry_reads (verb_for entry) (words_behind entry) (said_reads entry fits)

pub turned_marks_read_back : TurnedMarksReadBack
unfolding said_of
turned_marks_read_back m fits =
    ap group_entry_of (words_cut_back 32 (codes "mark" ∷ turned_words m) refl (verb_is_word MarkVerb, turned_is_words m fits))
    ∙ entry_reads MarkVerb (turned_words m) (simp (turned_marked_reads m fits))
