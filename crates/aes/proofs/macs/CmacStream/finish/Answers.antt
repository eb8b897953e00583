-- Nothing follows, so that what is held is the last block.
use Rattle.std.proofs.Common.{sym, ap, ◌∙◌}
use Rattle.std.proofs.lemmas.List.{append-nil}
use Rattle.aes.specs.Cipher.{cipher}
use Rattle.aes.specs.Cmac.{cmac_from}
use Rattle.aes.specs.Tags.{tag_after}
use Rattle.aes.proofs.macs.CmacStream.finish.Goals as goal

pub returns : goal.returns
unfolding tag_after
returns c =
    let s = c.args.self in
    let k = s.key.now in
    c.close.ensures ∙ ap (cmac_from (cipher k.aes.keys) k.k1 k.k2 s.x) (sym (append-nil _))
