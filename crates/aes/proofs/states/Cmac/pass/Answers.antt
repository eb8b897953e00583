-- The held block and the blocks before the last are chained, and the last is held.
use Rattle.std.proofs.Common.{◌-◌, ◌/◌, ◌++◌, length, take, sym, ap, ap₂, ◌∙◌, arith}
use Rattle.std.specs.List.{fold}
use Rattle.aes.specs.Cipher.{cipher}
use Rattle.aes.specs.Cmac.{cmac_from}
use Rattle.aes.specs.Tags.{tag_after}
use Rattle.aes.proofs.Cuts.{step, past_all}
use Rattle.aes.proofs.states.Cmac.pass.Goals as goal

pub returns : goal.returns
unfolding tag_after
returns c = λ rest.
    let s = c.args.self.now in
    let k = s.key.now in
    let bytes = c.args.bytes.now in
    let E = cipher k.aes.keys in
    let chain = c.chain_blocks-self.ensures ∙ ap₂ (fold (step E)) c.chain_blocks-x.ensures c.before_last.ensures.front in
    c.hold.ensures.more rest
    ∙ ap₂ (λ x left. cmac_from E k.k1 k.k2 x (left ++ rest)) chain c.before_last.ensures.last
    ∙ past_all E k.k1 k.k2 s.x s.buf bytes rest ((length bytes - 1) / 16) (omega arith) (omega arith)
    ∙ ap (λ n. cmac_from E k.k1 k.k2 s.x (take n s.buf ++ (bytes ++ rest))) (sym c.requires.0)
