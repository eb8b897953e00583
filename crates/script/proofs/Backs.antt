-- What is written reads as itself.
use Rattle.std.proofs.Common.{◌≡◌, ℕ, List, [], ◌∷◌, ◌++◌, map, codes, Some, Ok, decimal, refl, ap, ◌∙◌, arith}
use Rattle.std.specs.List.{AllByRecursion}
use Rattle.texts.specs.Cutting.{words_of, IsWord}
use Rattle.script.specs.Entries.{entry_of, request_of, request_at, numbers_of, EntriesReadBack}
use Rattle.script.specs.Headers.{header_of, header_words, register_word, service_words, service_of, counter_of, group_of, HeadersReadBack}
use Rattle.script.specs.Keys.{key_at, key_words, KeyFits}
use Rattle.texts.specs.Numerals.{number_of}
use Rattle.script.specs.Words.{spelt}
use Rattle.script.proofs.Written.{number_is_word, numbers_are_words, hex_is_word, text_is_word, words_joined}
use Rattle.script.specs.declared.entries.Entry.TheVariants.{Apply}
use Rattle.script.specs.declared.headers.Header.TheVariants.{Register, Counter, Mail, Group}
use Rattle.script.specs.declared.keys.Key.{Key}
use Rattle.script.specs.declared.keys.Key.TheVariants.{Hmac, Cmac}
use Rattle.script.specs.declared.headers.RegisterKind.{RegisterKind}
use Rattle.script.specs.declared.headers.RegisterKind.TheVariants.{Glyphs, Release}
use Rattle.script.specs.declared.headers.ServiceKind.{ServiceKind}
use Rattle.script.specs.declared.headers.ServiceKind.TheVariants.{Alone, Sessions}
use Rattle.texts.proofs.Digits.{decimals_read}
use Rattle.texts.proofs.Pairs.{hexes_read}
use Rattle.texts.proofs.Pieces.{words_cut_back}

-- a key that is written
key_is_words : (key : Key) → KeyFits key → AllByRecursion IsWord (key_words key)
key_is_words (Hmac key) fits = (text_is_word (codes "hmac") refl, (hex_is_word key (omega (arith, fits.0)) fits.1, tt))
key_is_words (Cmac key) fits = (text_is_word (codes "cmac") refl, (hex_is_word key (omega (arith, fits.0)) fits.1, tt))

-- with more words behind it
key_reads : (key : Key) (place : ℕ) (rest : List (List ℕ)) → KeyFits key → key_at (record { place = place; words = key_words key ++ rest }) ≡ Ok key
unfolding key_at spelt
key_reads (Hmac key) place rest fits = simp (hexes_read key fits.1, fits.0)
key_reads (Cmac key) place rest fits = simp (hexes_read key fits.1, fits.0)

-- a service
register_is_word : (register : RegisterKind) → IsWord (register_word register)
register_is_word Glyphs = text_is_word (register_word Glyphs) refl
register_is_word Release = text_is_word (register_word Release) refl

service_is_words : (service : ServiceKind) → AllByRecursion IsWord (service_words service)
service_is_words (Alone register) = (register_is_word register, tt)
service_is_words (Sessions register) = (text_is_word (codes "sessions") refl, (register_is_word register, tt))

service_reads : (service : ServiceKind) (place : ℕ) → service_of (record { place = place; words = service_words service }) ≡ Ok service
unfolding service_of spelt
service_reads (Alone Glyphs) place = refl
service_reads (Alone Release) place = refl
service_reads (Sessions Glyphs) place = refl
service_reads (Sessions Release) place = refl

-- two words that are numbers, and the words of a key
counter_read : (u v : List ℕ) (key : Key) {seats seat : ℕ} → KeyFits key → number_of u ≡ Some seats → number_of v ≡ Some seat → header_of (codes "counter" ∷ u ∷ v ∷ key_words key) ≡ Ok (Some (Counter (record { seats = seats; seat = seat; key = key })))
unfolding spelt counter_of
counter_read u v (Hmac key) fits a b = simp (a, b, key_reads (Hmac key) 4 [] fits)
counter_read u v (Cmac key) fits a b = simp (a, b, key_reads (Cmac key) 4 [] fits)

-- a word that is a number, the words of a key, and those of a service
group_read : (u : List ℕ) (key : Key) (service : ServiceKind) {seats : ℕ} → KeyFits key → number_of u ≡ Some seats → header_of (codes "group" ∷ u ∷ (key_words key ++ service_words service)) ≡ Ok (Some (Group (record { seats = seats; key = key; service = service })))
unfolding spelt group_of
group_read u (Hmac key) service fits a = simp (a, key_reads (Hmac key) 3 (service_words service) fits, service_reads service 5)
group_read u (Cmac key) service fits a = simp (a, key_reads (Cmac key) 3 (service_words service) fits, service_reads service 5)

pub headers_read_back : HeadersReadBack
unfolding words_of spelt service_of
headers_read_back (Register (Alone Glyphs)) fits = refl
headers_read_back (Register (Alone Release)) fits = refl
headers_read_back (Register (Sessions Glyphs)) fits = refl
headers_read_back (Register (Sessions Release)) fits = refl
headers_read_back (Counter counter) fits =
    ap header_of (words_cut_back 32 (header_words (Counter counter)) refl (text_is_word (codes "counter") refl, (number_is_word counter.seats fits.0, (number_is_word counter.seat fits.1, key_is_words counter.key fits.2))))
    ∙ counter_read _ _ counter.key fits.2 (decimals_read counter.seats fits.0) (decimals_read counter.seat fits.1)
headers_read_back Mail fits = refl
headers_read_back (Group group) fits =
    ap header_of (words_cut_back 32 (header_words (Group group)) refl (text_is_word (codes "group") refl, (number_is_word group.seats fits.0, words_joined _ _ (key_is_words group.key fits.1) (service_is_words group.service))))
    ∙ group_read _ group.key group.service fits.1 (decimals_read group.seats fits.0)

-- five words that are numbers
request_read : (u v w x y : List ℕ) {client sequence code key value : ℕ} → number_of u ≡ Some client → number_of v ≡ Some sequence → number_of w ≡ Some code → number_of x ≡ Some key → number_of y ≡ Some value → entry_of (codes "apply" ∷ u ∷ v ∷ w ∷ x ∷ y ∷ []) ≡ Ok (Some (Apply (record { client = client; sequence = sequence; code = code; key = key; value = value })))
unfolding spelt request_of request_at
request_read u v w x y a b c d e = simp (a, b, c, d, e)

pub entries_read_back : EntriesReadBack
entries_read_back (Apply q) small =
    let words = map decimal (numbers_of (Apply q)) in
    ap entry_of (words_cut_back 32 (codes "apply" ∷ words) refl (text_is_word (codes "apply") refl, numbers_are_words (numbers_of (Apply q)) small))
    ∙ request_read _ _ _ _ _ (decimals_read q.client small.0) (decimals_read q.sequence small.1.0) (decimals_read q.code small.1.1.0) (decimals_read q.key small.1.1.1.0) (decimals_read q.value small.1.1.1.1.0)
