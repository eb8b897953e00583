-- The padding comes in two parts.
use Rattle.std.proofs.Common.{◌≡◌, ◌-◌, ◌%◌, ◌∷◌, length, replicate, ap, ◌∙◌, rules}
use Rattle.sha256.specs.Sha256.{be64}
use Rattle.sha256.proofs.Padding.{padding_front, bits_written}
use Rattle.sha256.proofs.Streams.{finished}
use Rattle.sha256.proofs.hashing.Sha256.pad.Goals as goal

pub returns : goal.returns
unfolding be64
returns c =
    let self = c.args.self.now in
    let front = padding_front c.fill.result ∙ ap (λ f. 0x80 ∷ replicate ((119 - f) % 64) 0) c.fill.ensures in
    let bits = c.to_be_bytes.ensures ∙ bits_written self.count in
    let eight : length c.to_be_bytes.result ≡ 8 = search rules in
    finished self _ _ _ _ c.take_in.ensures c.take_in-2.ensures front bits eight
