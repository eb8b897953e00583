-- A hash that begins with the block of a key goes on from the hash value after that block.
use Rattle.std.proofs.lemmas.Grind.{common_steps}
use Rattle.std.proofs.Common.{◌≡◌, ℕ, ◌+◌, List, ◌++◌, map, length, get_or, sym, ap, ◌∙◌, arith}
use lib.Bits.{bit_xor}
use Rattle.std.specs.List.{range_with_len}
use Rattle.std.proofs.lemmas.List.FromFn.{fill_by_all}
use Rattle.std.proofs.lemmas.List.{append_assoc, length-append, length-map, get_or-map}
use Rattle.sha256.specs.Sha256.{H0, padding, compressed, digest_bytes, sha256}
use Rattle.sha256.specs.Hmac.{ipad, opad, xored}
use Rattle.sha256.specs.Progress.{digest_from}
use Rattle.sha256.proofs.Parsing.{hashed_block}

-- the digest of a block and what follows it
digest_from_block : (b m : List ℕ) → length b ≡ 64 → digest_from (compressed H0 b) m ≡ sha256 (b ++ m)
unfolding digest_from sha256
digest_from_block b m long =
    let count : 64 + length m ≡ length (b ++ m) = simp length-append (omega arith) in
    rw (count, append_assoc) (ap digest_bytes (sym (hashed_block H0 b (m ++ padding (length (b ++ m))) long)))

-- the block of a key against a pad is a block
xored_long : (k : List ℕ) (pad : ℕ) → length k ≡ 64 → length (xored k pad) ≡ 64
unfolding xored
xored_long k pad long = grind (arith, common_steps)

-- the block of a key against a pad, place by place
pub xored_places : (k : List ℕ) (pad : ℕ) → length k ≡ 64 → map (λ i. bit_xor (get_or k i 0) pad) (range_with_len 0 64) ≡ xored k pad
unfolding xored
xored_places k pad long =
    let each : ℕ → ℕ = λ b. bit_xor b pad in
    sym (fill_by_all (λ i. each (get_or k i 0)) (map each k) 64 0 (length-map k each ∙ long) (λ i less. get_or-map each k i 0 0 (omega (arith, long))))

-- the two hash values after the block of the key give the tags of HMAC
pub tags_from : (k inner outer m : List ℕ) → length k ≡ 64 → inner ≡ compressed H0 (xored k ipad) → outer ≡ compressed H0 (xored k opad)
    → digest_from outer (digest_from inner m) ≡ sha256 (xored k opad ++ sha256 (xored k ipad ++ m))
tags_from k inner outer m long i o =
    let inner_is = digest_from_block (xored k ipad) m (xored_long k ipad long) in
    rw (i, o, inner_is) (digest_from_block (xored k opad) (sha256 (xored k ipad ++ m)) (xored_long k opad long))
