-- What two words say of a counter's key.
use Rattle.std.specs.Prelude.{◌≡◌, ℕ, ◌<◌, if◌then◌else◌, codes, List, [], ◌∷◌, length, nat_eq, slice_index, Some, None, Ok, Err, Option, Result}
use Rattle.std.specs.Option.{ok_or, option_and_then}
use Rattle.texts.specs.Cutting.{first_of}
use Rattle.texts.specs.Hexes.{bytes_of, hex_of}
use Rattle.script.specs.Words.{Left, fault_at, read_at, behind_first, and_then, spelt}
use Rattle.script.specs.declared.faults.Expected.TheVariants.{CounterKind as NoKind, HmacKey as NoHmacKey, CmacKey as NoCmacKey}
use Rattle.script.specs.declared.faults.Fault.{Fault}
use Rattle.script.specs.declared.keys.Key.{Key}
use Rattle.script.specs.declared.keys.Key.TheVariants.{Hmac, Cmac}

-- so many bytes, in hexadecimal
abbrev pub bytes_of_key : ℕ → List ℕ → Option (List ℕ)
bytes_of_key n word = option_and_then (λ bytes. if nat_eq (length bytes) n then Some bytes else None) (bytes_of word)

-- a kind of counters, and its key: 32 bytes behind `hmac`, and 16 behind `cmac`
unfoldable pub key_at : Left → Result Key Fault
key_at left =
    and_then (ok_or (first_of left.words) (fault_at left.place NoKind)) (λ w.
    if spelt (codes "hmac") w then and_then (read_at NoHmacKey (bytes_of_key 32) (behind_first left)) (λ key. Ok (Hmac key))
    else (if spelt (codes "cmac") w then and_then (read_at NoCmacKey (bytes_of_key 16) (behind_first left)) (λ key. Ok (Cmac key))
    else Err (fault_at left.place NoKind)))

-- a key as it is written: its kind and its bytes in hexadecimal
abbrev pub key_words : Key → List (List ℕ)
key_words (Hmac key) = codes "hmac" ∷ hex_of key ∷ []
key_words (Cmac key) = codes "cmac" ∷ hex_of key ∷ []

-- as many bytes as the kind wants
abbrev pub KeyFits : Key → Type 0
KeyFits (Hmac key) = (length key ≡ 32) × ((k : ℕ) → slice_index key k < 256)
KeyFits (Cmac key) = (length key ≡ 16) × ((k : ℕ) → slice_index key k < 256)
