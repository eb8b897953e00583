-- What is written of a replica's call reads as itself.
use Rattle.std.proofs.Common.{◌≡◌, ℕ, ◌<◌, List, ◌++◌, codes, map, Some, None, Ok, Option, decimal, refl}
use Rattle.std.specs.List.{AllByRecursion}
use Rattle.terms.specs.declared.requests.Request.{Request}
use Rattle.texts.proofs.Digits.{decimals_read}
use Rattle.texts.specs.Cutting.{IsWord}
use Rattle.texts.specs.Numerals.{number_bound}
use Rattle.script.proofs.BytesBacks.{bytes_is_word, bytes_read}
use Rattle.script.proofs.Written.{number_is_word, numbers_are_words, text_is_word, words_joined}
use Rattle.script.specs.Entries.{request_at, request_numbers}
use Rattle.script.specs.GroupCalls.{asked_of, taken_of, called_of, marked_of, asked_words, taken_words, called_words, marked_words, turned_words, AskedFits, TakenFits, CalledFits, MarkedFits}
use Rattle.script.specs.Lengths.{length_of, out_of, lengths_of, out_words, scratch_words, LengthFits}
use Rattle.script.specs.Words.{spelt}
use Rattle.script.specs.declared.group_calls.Asked.{Asked}
use Rattle.script.specs.declared.group_calls.Called.{Called}
use Rattle.script.specs.declared.group_calls.Marked.{Marked}
use Rattle.script.specs.declared.group_calls.Taken.{Taken}

-- a length behind its name
out_is_words : (out : Option ℕ) → LengthFits out → AllByRecursion IsWord (out_words out)
out_is_words None fits = tt
out_is_words (Some length) fits = (text_is_word (codes "out") refl, (number_is_word length fits, tt))

scratch_is_words : (scratch : Option ℕ) → LengthFits scratch → AllByRecursion IsWord (scratch_words scratch)
scratch_is_words None fits = tt
scratch_is_words (Some length) fits = (text_is_word (codes "scratch") refl, (number_is_word length fits, tt))

out_reads : (place : ℕ) (out : Option ℕ) → LengthFits out → out_of (record { place = place; words = out_words out }) ≡ Ok out
unfolding length_of spelt
out_reads place None fits = refl
out_reads place (Some length) fits = simp (decimals_read length fits)

-- two lengths, in either order
lengths_read : (place : ℕ) (out scratch : Option ℕ) → LengthFits out → LengthFits scratch → lengths_of (record { place = place; words = out_words out ++ scratch_words scratch }) ≡ Ok (record { out = out; scratch = scratch })
unfolding lengths_of length_of spelt
lengths_read place None None short low = refl
lengths_read place None (Some scratch) short low = simp (decimals_read scratch low)
lengths_read place (Some out) None short low = simp (decimals_read out short)
lengths_read place (Some out) (Some scratch) short low = simp (decimals_read out short, decimals_read scratch low)

turned_lengths_read : (place : ℕ) (out scratch : Option ℕ) → LengthFits out → LengthFits scratch → lengths_of (record { place = place; words = scratch_words scratch ++ out_words out }) ≡ Ok (record { out = out; scratch = scratch })
unfolding lengths_of length_of spelt
turned_lengths_read place None None short low = refl
turned_lengths_read place None (Some scratch) short low = simp (decimals_read scratch low)
turned_lengths_read place (Some out) None short low = simp (decimals_read out short)
turned_lengths_read place (Some out) (Some scratch) short low = simp (decimals_read out short, decimals_read scratch low)

-- five numbers, and more words behind them
request_reads : (place : ℕ) (request : Request) (rest : List (List ℕ)) → AllByRecursion (λ n. n < number_bound) (request_numbers request) → request_at (record { place = place; words = map decimal (request_numbers request) ++ rest }) ≡ Ok request
unfolding request_at
request_reads place q rest small = simp (decimals_read q.client small.0, decimals_read q.sequence small.1.0, decimals_read q.code small.1.1.0, decimals_read q.key small.1.1.1.0, decimals_read q.value small.1.1.1.1.0)

pub asked_is_words : (a : Asked) → AskedFits a → AllByRecursion IsWord (asked_words a)
asked_is_words a fits = (number_is_word a.seat fits.0, words_joined (map decimal (request_numbers a.request)) _ (numbers_are_words (request_numbers a.request) fits.1) (out_is_words a.out fits.2))

pub asked_reads : (a : Asked) → AskedFits a → asked_of (record { place = 2; words = asked_words a }) ≡ Ok a
unfolding asked_of
asked_reads a fits = simp (decimals_read a.seat fits.0, request_reads 3 a.request (out_words a.out) fits.1, out_reads 8 a.out fits.2)

pub taken_is_words : (t : Taken) → TakenFits t → AllByRecursion IsWord (taken_words t)
taken_is_words t fits = (number_is_word t.seat fits.0, (bytes_is_word t.bytes fits.1, tt))

pub taken_reads : (t : Taken) → TakenFits t → taken_of (record { place = 2; words = taken_words t }) ≡ Ok t
unfolding taken_of
taken_reads t fits = simp (decimals_read t.seat fits.0, bytes_read t.bytes fits.1)

pub called_is_words : (c : Called) → CalledFits c → AllByRecursion IsWord (called_words c)
called_is_words c fits = (number_is_word c.seat fits.0, out_is_words c.out fits.1)

pub called_reads : (c : Called) → CalledFits c → called_of (record { place = 2; words = called_words c }) ≡ Ok c
unfolding called_of
called_reads c fits = simp (decimals_read c.seat fits.0, out_reads 3 c.out fits.1)

pub marked_is_words : (m : Marked) → MarkedFits m → AllByRecursion IsWord (marked_words m)
marked_is_words m fits = (number_is_word m.seat fits.0, words_joined _ _ (out_is_words m.lengths.out fits.1) (scratch_is_words m.lengths.scratch fits.2))

pub turned_is_words : (m : Marked) → MarkedFits m → AllByRecursion IsWord (turned_words m)
turned_is_words m fits = (number_is_word m.seat fits.0, words_joined _ _ (scratch_is_words m.lengths.scratch fits.2) (out_is_words m.lengths.out fits.1))

pub marked_reads : (m : Marked) → MarkedFits m → marked_of (record { place = 2; words = marked_words m }) ≡ Ok m
unfolding marked_of
marked_reads m fits = simp (decimals_read m.seat fits.0, lengths_read 3 m.lengths.out m.lengths.scratch fits.1 fits.2)

pub turned_marked_reads : (m : Marked) → MarkedFits m → marked_of (record { place = 2; words = turned_words m }) ≡ Ok m
unfolding marked_of
turned_marked_reads m fits = simp (decimals_read m.seat fits.0, turned_lengths_read 3 m.lengths.out m.lengths.scratch fits.1 fits.2)
