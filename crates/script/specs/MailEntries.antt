-- What the words of a mail's entry line say.
use Rattle.std.specs.Prelude.{◌≡◌, ℕ, if◌then◌else◌, codes, List, [], ◌∷◌, Some, None, Ok, Err, Option, Result}
use Rattle.std.specs.List.{join_with_byte}
use Rattle.texts.specs.Cutting.{words_of}
use Rattle.script.specs.Bytes.{bytes_at, bytes_word, BytesFit}
use Rattle.script.specs.Words.{Left, fault_at, and_then, with_word, with_end, spelt}
use Rattle.script.specs.declared.bytes.Bytes.{Bytes}
use Rattle.script.specs.declared.faults.Expected.TheVariants.{MailEntry as NoMailEntry}
use Rattle.script.specs.declared.faults.Fault.{Fault}
use Rattle.script.specs.declared.mail_entries.MailEntry.{MailEntry}
use Rattle.script.specs.declared.mail_entries.MailEntry.TheVariants.{Read}

-- bytes, and the line's end
unfoldable pub mail_of : Left → Result Bytes Fault
mail_of left = with_word bytes_at left (λ bytes left₁. with_end left₁ bytes)

-- no words say nothing; `read BYTES` asks for bytes to be read
abbrev pub mail_entry_of : List (List ℕ) → Result (Option MailEntry) Fault
mail_entry_of [] = Ok None
mail_entry_of (w ∷ ws) =
    if spelt (codes "read") w then and_then (mail_of (record { place = 2; words = ws })) (λ bytes. Ok (Some (Read bytes)))
    else Err (fault_at 1 NoMailEntry)

-- an entry as it is written: its words in order, with one space between them
abbrev pub entry_words : MailEntry → List (List ℕ)
entry_words (Read bytes) = codes "read" ∷ bytes_word bytes ∷ []

abbrev pub written : MailEntry → List ℕ
written entry = join_with_byte 32 (entry_words entry)

-- bytes are those that their type holds
abbrev pub EntryFits : MailEntry → Type 0
EntryFits (Read bytes) = BytesFit bytes

-- an entry that is written reads as itself
abbrev pub MailEntriesReadBack : Type 0
MailEntriesReadBack = (entry : MailEntry) → EntryFits entry → mail_entry_of (words_of (written entry)) ≡ Ok (Some entry)
