-- The highest so far and that of the places that are left.
use Rattle.std.proofs.Common.{◌≡◌, max, drop}
use Rattle.protocol.specs.Changes.{highest_low}
use Rattle.protocol.specs.Standing.{held}
use Rattle.again.proofs.marks.highest_low.Given as goal

abbrev pub invariant-loop-place : goal.invariant-loop-place
invariant-loop-place l = max l.highest (highest_low (held (drop l.place-index l.changes))) ≡ highest_low (held l.changes)
