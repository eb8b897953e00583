-- What is found in the VIEW-CHANGEs that are left.
use Rattle.std.proofs.Common.{◌≡◌, drop}
use Rattle.protocol.specs.Again.{prepare_at, entries_from}
use Rattle.protocol.specs.Standing.{held}
use Rattle.again.proofs.gathering.told_at.Given as goal

abbrev pub invariant-loop-place : goal.invariant-loop-place
invariant-loop-place l = prepare_at l.order (entries_from l.from.0 (held (drop l.place-index l.changes))) ≡ prepare_at l.order (entries_from l.from.0 (held l.changes))
