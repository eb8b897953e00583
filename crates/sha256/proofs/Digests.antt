-- A digest has 32 bytes, whatever it is of.
use Rattle.std.specs.Prelude.{◌≡◌, ℕ, zero, suc, ◌+◌, ◌*◌, ◌/◌, ◌≤◌, List, [], ◌∷◌, ◌++◌, length, refl}
use Rattle.std.proofs.Common.{ap, ◌∙◌, arith}
use Rattle.std.proofs.lemmas.List.{length-append, length-replicate}
use Rattle.sha256.specs.Sha256.{H0, be64, padding, padded, blocks, parsed, compressed, hashed, digest_bytes, sha256}

-- eight words after every block
eight_words : (h : List ℕ) (ms : List (List ℕ)) → length h ≡ 8 → length (hashed h ms) ≡ 8
unfolding hashed compressed
eight_words h [] eight = eight
eight_words h (m ∷ ms) eight = eight_words (compressed h m) ms refl

-- and four bytes to a word
four_bytes : (h : List ℕ) → length (digest_bytes h) ≡ 4 * length h
unfolding digest_bytes
four_bytes [] = refl
four_bytes (w ∷ ws) = omega (arith, four_bytes ws)

pub sha256_length : (bytes : List ℕ) → length (sha256 bytes) ≡ 32
unfolding sha256 H0
sha256_length bytes = four_bytes _ ∙ ap (λ n. 4 * n) (eight_words H0 (parsed (padded bytes)) refl)
