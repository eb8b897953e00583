-- What a hash or a tag in progress stands for: a function from the bytes that may still follow to the final result.
-- Each call's contract says how it changes that function. So a new hash, an update by a, an update by b and a finish
-- give the digest of a ++ b, with no word of how the bytes are held in between.
use Rattle.std.specs.Prelude.{◌≡◌, ℕ, ◌+◌, ◌%◌, ◌^◌, List, ◌++◌, length, take}
use Rattle.sha256.specs.Sha256.{padding, parsed, hashed, digest_bytes}
use Rattle.sha256.specs.declared.hashing.Sha256.{Sha256}
use Rattle.sha256.specs.declared.tags.HmacKey.{HmacKey}
use Rattle.sha256.specs.declared.tags.Hmac.{Hmac}

-- the bytes that have come and do not fill a block
abbrev pub waiting : Sha256 → List ℕ
waiting s = take (s.count % 64) s.block

-- the bytes that are still to be hashed, with the padding, once rest has come
unfoldable pub remaining : Sha256 → List ℕ → List ℕ
remaining s rest = waiting s ++ (rest ++ padding (s.count + length rest))

-- the digest once rest has come
abbrev pub digest_after : Sha256 → List ℕ → List ℕ
digest_after s rest = digest_bytes (hashed s.h (parsed (remaining s rest)))

-- t is what s becomes when the bytes come: they are counted, and whatever is hashed behind them, a padding too, gives
-- what it gave behind the bytes
pub record TakesIn (s : Sha256) (bytes : List ℕ) (t : Sha256) : Type 0 where
  pub counted : t.count ≡ (s.count + length bytes) % 2 ^ 64
  pub absorbed : (tail : List ℕ)
      → hashed t.h (parsed (waiting t ++ tail)) ≡ hashed s.h (parsed (waiting s ++ (bytes ++ tail)))

-- the digest of a message of which one block has gone into the hash value h, and m is what follows
unfoldable pub digest_from : List ℕ → List ℕ → List ℕ
digest_from h m = digest_bytes (hashed h (parsed (m ++ padding (64 + length m))))

-- the tags that a key gives
unfoldable pub tag_under : HmacKey → List ℕ → List ℕ
tag_under k m = digest_from k.outer (digest_from k.inner m)

-- the tag once rest has come
unfoldable pub tag_after : Hmac → List ℕ → List ℕ
tag_after s rest = digest_from s.outer (digest_after s.inner rest)
