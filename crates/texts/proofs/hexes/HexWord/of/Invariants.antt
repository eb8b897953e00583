-- The pairs write bytes if those that are left do.
use Rattle.std.proofs.Common.{◌≡◌, drop, is_some}
use Rattle.texts.specs.Hexes.{bytes_of_pairs}
use Rattle.texts.proofs.hexes.HexWord.of.Given as goal

abbrev pub invariant-loop-high : goal.invariant-loop-high
invariant-loop-high l = is_some (bytes_of_pairs l.pairs) ≡ is_some (bytes_of_pairs (drop l.high-index l.pairs))
