-- What is written of mail reads as itself.
use Rattle.std.proofs.Common.{◌≡◌, ℕ, List, [], ◌∷◌, codes, Some, Ok, refl, ap, ◌∙◌}
use Rattle.texts.proofs.Pieces.{words_cut_back}
use Rattle.script.proofs.BytesBacks.{bytes_is_word, bytes_read}
use Rattle.script.proofs.Written.{text_is_word}
use Rattle.script.specs.Bytes.{bytes_named}
use Rattle.script.specs.MailEntries.{mail_entry_of, mail_of, entry_words, MailEntriesReadBack}
use Rattle.script.specs.Words.{spelt}
use Rattle.script.specs.declared.bytes.Bytes.{Bytes}
use Rattle.script.specs.declared.mail_entries.MailEntry.TheVariants.{Read}

-- bytes
mail_read : (u : List ℕ) {bytes : Bytes} → bytes_named u ≡ Some bytes → mail_entry_of (codes "read" ∷ u ∷ []) ≡ Ok (Some (Read bytes))
unfolding spelt mail_of
mail_read u a = simp a

pub mail_entries_read_back : MailEntriesReadBack
mail_entries_read_back (Read bytes) fits =
    ap mail_entry_of (words_cut_back 32 (entry_words (Read bytes)) refl (text_is_word (codes "read") refl, (bytes_is_word bytes fits, tt)))
    ∙ mail_read _ (bytes_read bytes fits)
