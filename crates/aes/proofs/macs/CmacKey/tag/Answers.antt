-- The blocks before the last, and then the last.
use Rattle.std.proofs.Common.{◌-◌, ◌/◌, length, ap, ap₂, ◌∙◌, arith}
use Rattle.std.specs.List.{fold}
use Rattle.aes.specs.Cipher.{cipher}
use Rattle.aes.specs.Cmac.{const_zero, cmac_from}
use Rattle.aes.specs.Tags.{tag_under}
use Rattle.aes.proofs.Cuts.{step, past_blocks}
use Rattle.aes.proofs.macs.CmacKey.tag.Goals as goal

pub returns : goal.returns
unfolding tag_under
returns c =
    let k = c.args.self.now in
    let m = c.args.bytes.now in
    let E = cipher k.aes.keys in
    c.close.ensures
    ∙ ap₂ (cmac_from E k.k1 k.k2) (c.chain_blocks-x.ensures ∙ ap (fold (step E) const_zero) c.before_last.ensures.front) c.before_last.ensures.last
    ∙ past_blocks E k.k1 k.k2 const_zero m ((length m - 1) / 16) (omega arith)
