-- The bytes of each word, one behind the other.
use Rattle.std.proofs.Common.{◌≡◌, [], map, length, rules}
use Rattle.std.proofs.lemmas.List.Folds.{flat_map-map}
use Rattle.sha256.specs.Sha256.{be32, digest_bytes}
use Rattle.streams.proofs.Arrays.{map_by}
use Rattle.sha256.proofs.compression.digest_bytes.Goals as goal

pub returns : goal.returns
unfolding digest_bytes
returns c =
    let h = c.args.h in
    let long : length h ≡ 8 = search rules in
    let words : c.map.result ≡ map be32 h = map_by _ be32 0 [] _ h _ 8 (λ p x y q k. search rules) long c.map.ensures.items in
    rw (c.copy_from_slice.ensures.after, c.as_flattened.ensures.value, words) (flat_map-map (λ x. x) be32 h)
