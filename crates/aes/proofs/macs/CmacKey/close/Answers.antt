-- The last block is chained like the others.
use Rattle.std.proofs.Common.{ap, ◌∙◌, arith}
use Rattle.aes.specs.Cipher.{cipher}
use Rattle.aes.proofs.Cuts.{step, closed}
use Rattle.aes.proofs.macs.CmacKey.close.Goals as goal

pub returns : goal.returns
returns c =
    let k = c.args.self.now in
    let E = cipher k.aes.keys in
    c.chain_blocks.ensures ∙ ap (step E c.args.x) c.last_block-last.ensures ∙ closed E k.k1 k.k2 c.args.x c.args.left.now (omega arith)
