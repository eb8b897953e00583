-- The highest so far and that of the places that are left.
use Rattle.std.proofs.Common.{◌≡◌, max, drop}
use Rattle.protocol.specs.Changes.{highest_from}
use Rattle.protocol.specs.Standing.{held}
use Rattle.again.proofs.marks.highest_from.Given as goal

abbrev pub invariant-loop-place : goal.invariant-loop-place
invariant-loop-place l = max l.highest (highest_from (held (drop l.place-index l.changes))) ≡ highest_from (held l.changes)
