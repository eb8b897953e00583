-- The bytes stand behind those that were held.
use Rattle.std.proofs.Common.{arith}
use Rattle.aes.specs.Cipher.{cipher}
use Rattle.aes.specs.Tags.{tag_after}
use Rattle.aes.proofs.Cuts.{held_more}
use Rattle.aes.proofs.states.Cmac.hold.Goals as goal

pub returns-clause-more : goal.returns-clause-more
unfolding tag_after
returns-clause-more c =
    let s = c.args.self.now in
    held_more (cipher s.key.now.aes.keys) s.key.now.k1 s.key.now.k2 s.x s.buf c.copy_from_slice.new.self c.args.bytes.now s.fill _ c.copy_from_slice.ensures.after (omega arith)
