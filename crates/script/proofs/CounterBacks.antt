-- What is written of a counter reads as itself.
use Rattle.std.proofs.Common.{◌≡◌, ℕ, List, [], ◌∷◌, codes, Some, Ok, refl, ap, ◌∙◌}
use Rattle.std.specs.List.{AllByRecursion}
use Rattle.counter.specs.declared.kinds.Kind.{Kind}
use Rattle.counter.specs.declared.kinds.Kind.TheVariants.{Continuing, Independent}
use Rattle.texts.proofs.Digits.{decimals_read, long_decimals_read}
use Rattle.texts.proofs.Pieces.{words_cut_back}
use Rattle.texts.specs.Cutting.{IsWord}
use Rattle.texts.specs.Numerals.{number_of, long_of}
use Rattle.script.proofs.BytesBacks.{bytes_is_word, bytes_read}
use Rattle.script.proofs.Written.{decimal_is_word, number_is_word, text_is_word}
use Rattle.script.specs.Bytes.{bytes_named}
use Rattle.script.specs.CounterEntries.{kind_of, kind_word, counter_entry_of, certify_of, certify_words, CertifyFits, value_of, claim_of, entry_words, CounterEntriesReadBack}
use Rattle.script.specs.Words.{spelt}
use Rattle.script.specs.declared.bytes.Bytes.{Bytes}
use Rattle.script.specs.declared.counter_entries.Certify.{Certify}
use Rattle.script.specs.declared.counter_entries.CounterEntry.TheVariants.{Certify as Certifies, Value, Check}

-- a kind
pub kind_reads : (kind : Kind) → kind_of (kind_word kind) ≡ Some kind
unfolding spelt
kind_reads Continuing = refl
kind_reads Independent = refl

-- a kind, two numbers and bytes
pub certify_reads : (c : Certify) (place : ℕ) → CertifyFits c → certify_of (record { place = place; words = certify_words c }) ≡ Ok c
unfolding certify_of
certify_reads c place fits = simp (kind_reads c.kind, decimals_read c.number fits.0, long_decimals_read c.value fits.1, bytes_read c.message fits.2)

-- a number
value_read : (u : List ℕ) {number : ℕ} → number_of u ≡ Some number → counter_entry_of (codes "value" ∷ u ∷ []) ≡ Ok (Some (Value number))
unfolding spelt value_of
value_read u a = simp a

-- five numbers and bytes, twice
claim_read : (t u v w x y z : List ℕ) {kind seat number new old : ℕ} {message tag : Bytes} → number_of t ≡ Some kind → number_of u ≡ Some seat → number_of v ≡ Some number → long_of w ≡ Some new → long_of x ≡ Some old → bytes_named y ≡ Some message → bytes_named z ≡ Some tag → counter_entry_of (codes "check" ∷ t ∷ u ∷ v ∷ w ∷ x ∷ y ∷ z ∷ []) ≡ Ok (Some (Check (record { kind = kind; seat = seat; number = number; new = new; old = old; message = message; tag = tag })))
unfolding spelt claim_of
claim_read t u v w x y z a b c d e f g = simp (a, b, c, d, e, f, g)

pub kind_is_word : (kind : Kind) → IsWord (kind_word kind)
kind_is_word Continuing = text_is_word (kind_word Continuing) refl
kind_is_word Independent = text_is_word (kind_word Independent) refl

pub certify_is_words : (c : Certify) → CertifyFits c → AllByRecursion IsWord (certify_words c)
certify_is_words c fits = (kind_is_word c.kind, (number_is_word c.number fits.0, (decimal_is_word c.value fits.1, (bytes_is_word c.message fits.2, tt))))

certify_read : (c : Certify) → CertifyFits c → counter_entry_of (codes "certify" ∷ certify_words c) ≡ Ok (Some (Certifies c))
unfolding spelt
certify_read c fits = simp (certify_reads c 2 fits)

pub counter_entries_read_back : CounterEntriesReadBack
counter_entries_read_back (Certifies c) fits =
    ap counter_entry_of (words_cut_back 32 (entry_words (Certifies c)) refl (text_is_word (codes "certify") refl, certify_is_words c fits))
    ∙ certify_read c fits
counter_entries_read_back (Value number) fits =
    ap counter_entry_of (words_cut_back 32 (entry_words (Value number)) refl (text_is_word (codes "value") refl, (number_is_word number fits, tt)))
    ∙ value_read _ (decimals_read number fits)
counter_entries_read_back (Check c) fits =
    ap counter_entry_of (words_cut_back 32 (entry_words (Check c)) refl (text_is_word (codes "check") refl, (number_is_word c.kind fits.0, (number_is_word c.seat fits.1, (number_is_word c.number fits.2, (decimal_is_word c.new fits.3, (decimal_is_word c.old fits.4, (bytes_is_word c.message fits.5, (bytes_is_word c.tag fits.6, tt)))))))))
    ∙ claim_read _ _ _ _ _ _ _ (decimals_read c.kind fits.0) (decimals_read c.seat fits.1) (decimals_read c.number fits.2) (long_decimals_read c.new fits.3) (long_decimals_read c.old fits.4) (bytes_read c.message fits.5) (bytes_read c.tag fits.6)
