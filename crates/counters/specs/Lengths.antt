-- How long the tags of the published functions are, whatever the key and the message.
use Rattle.std.specs.Prelude.{◌≡◌, ℕ, zero, suc, ◌+◌, ◌*◌, ◌/◌, ◌≤◌, List, [], ◌∷◌, ◌++◌, length, slice_index_or, refl}
use Rattle.std.proofs.Common.{ap, sym, ◌∙◌, arith}
use Rattle.std.proofs.lemmas.List.{length-append, length-replicate}
use Rattle.aes.proofs.Sums.{length-xors}
use Rattle.aes.specs.Cipher.{xors, sub_bytes, shift_rows, next_key, round_key, key_expansion, rounds, add_round_key, cipher, aes128}
use Rattle.aes.specs.Cmac.{cmac_from, cmac}
use Rattle.sha256.specs.Progress.{digest_from, tag_under}
use Rattle.sha256.specs.Sha256.{be64, padding, blocks, parsed, compressed, hashed, digest_bytes}
use Rattle.sha256.specs.declared.tags.HmacKey.{HmacKey}

-- SHA-256: eight words after at least one block, and four bytes to a word
hashed_length : (h m : List ℕ) (ms : List (List ℕ)) → length (hashed h (m ∷ ms)) ≡ 8
unfolding hashed compressed
hashed_length h m [] = refl
hashed_length h m (n ∷ ms) = hashed_length (compressed h m) n ms

digest-length : (h : List ℕ) → length (digest_bytes h) ≡ 4 * length h
unfolding digest_bytes
digest-length [] = refl
digest-length (w ∷ ws) = omega (arith, digest-length ws)

-- a message that a block went before has a block when it is padded
padded-length : (m : List ℕ) → 64 ≤ length (m ++ padding (64 + length m))
unfolding padding be64
padded-length m = simp (length-append, length-replicate) (omega arith)

some_blocks : (n : ℕ) (h m : List ℕ) → 1 ≤ n → length (hashed h (blocks n m)) ≡ 8
unfolding blocks
some_blocks zero h m some = absurd (omega arith)
some_blocks (suc n) h m some = hashed_length h _ _

digest_from-length : (h m : List ℕ) → length (digest_from h m) ≡ 32
unfolding digest_from parsed
digest_from-length h m =
    let long = padded-length m in
    let words = some_blocks (length (m ++ padding (64 + length m)) / 64) h (m ++ padding (64 + length m)) (omega arith) in
    digest-length _ ∙ ap (λ n. 4 * n) words

pub hmac-length : (key : HmacKey) (bytes : List ℕ) → length (tag_under key bytes) ≡ 32
unfolding tag_under
hmac-length key bytes = digest_from-length key.outer (digest_from key.inner bytes)

-- AES: the last round key has sixteen bytes, and so has the last round
next_key-length : (k : List ℕ) (c : ℕ) → length (next_key k c) ≡ 16
unfolding next_key xors
next_key-length k c = refl

last_key-length : (key : List ℕ) → length (slice_index_or (key_expansion key) 10 []) ≡ 16
unfolding key_expansion round_key
last_key-length key = next_key-length (round_key key 9) _

cipher-length : (key block : List ℕ) → length (aes128 key block) ≡ 16
unfolding cipher
cipher-length key block =
    let last = last_key-length key in
    length-xors (shift_rows (sub_bytes (rounds (key_expansion key) (add_round_key block (slice_index_or (key_expansion key) 0 [])) 9))) (slice_index_or (key_expansion key) 10 []) (sym last)

pub cmac-length : (key bytes : List ℕ) → length (cmac key bytes) ≡ 16
unfolding cmac_from
cmac-length key bytes = cipher-length key _
