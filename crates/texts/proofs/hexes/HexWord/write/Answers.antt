-- Each turn writes one byte.
use Rattle.std.proofs.Common.{◌≡◌, length, arith}
use Rattle.std.proofs.lemmas.Grind.{common_steps}
use Rattle.std.proofs.lemmas.List.{ext_get_or}
use Rattle.texts.proofs.Pairs.{one_for_each, byte_at}
use Rattle.texts.proofs.hexes.HexWord.write.Goals as goal

one_each : (c : goal.After-unwrap_or) → length c.loop-i.bytes ≡ length c.self.inside.pairs.now
one_each c =
    let pairs = one_for_each c.self.inside.pairs.now c.self.invariant in
    grind (arith, pairs, c.loop-i.auto.bytes, c.requires, c.self.view_is)

pub bounds-bytes-i : goal.bounds-bytes-i
bounds-bytes-i c = omega (arith, one_each c, c.loop-i-test.true)

pub loop-i-preserved : goal.loop-i-preserved
loop-i-preserved c = λ k below.
    let byte = byte_at c.self.inside.pairs.now c.loop-i.i c.self.invariant c.loop-i-test.true in
    let before = c.loop-i.invariant k in
    let room = one_each c in
    grind (arith, common_steps, byte, before, room, c.self.view_is, c.hex_byte.ensures, c.unwrap_or.ensures)

pub returns : goal.returns
returns c =
    let pairs = one_for_each c.self.inside.pairs.now c.self.invariant in
    let long : length c.loop-i.bytes ≡ length c.args.self.now = grind (arith, c.loop-i.auto.bytes, c.requires) in
    ext_get_or 0 c.loop-i.bytes c.args.self.now long (λ k below. c.loop-i.invariant k (grind (arith, pairs, below, c.loop-i.auto.bytes, c.requires, c.self.view_is, c.loop-i-test.false)))
