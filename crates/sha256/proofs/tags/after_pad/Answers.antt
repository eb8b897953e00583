-- Each byte of the key meets the pad, and the initial hash value is the standard's.
use Rattle.std.proofs.Common.{◌≡◌, length, get_or, ap, ◌∙◌, rules}
use lib.Bits.{bit_xor}
use Rattle.sha256.specs.Sha256.{H0, compressed}
use Rattle.sha256.specs.Hmac.{xored}
use Rattle.streams.proofs.Arrays.{from_fn_same}
use Rattle.sha256.proofs.Keys.{xored_places}
use Rattle.sha256.proofs.tags.after_pad.Goals as goal

pub returns : goal.returns
unfolding H0
returns c =
    let key = c.args.key in
    let pad = c.args.pad in
    let long : length key ≡ 64 = search rules in
    let bytes : c.from_fn.result ≡ xored key pad = from_fn_same _ (λ i. bit_xor (get_or key i 0) pad) 0 _ _ _ (λ i y q k. search rules) c.from_fn.ensures.items ∙ xored_places key pad long in
    c.compress.ensures ∙ ap (compressed H0) bytes
