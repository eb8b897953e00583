-- What is found in the entries that are left.
use Rattle.std.proofs.Common.{◌≡◌, drop}
use Rattle.protocol.specs.Again.{prepare_at}
use Rattle.again.proofs.gathering.entry_at.Given as goal

abbrev pub invariant-loop-place : goal.invariant-loop-place
invariant-loop-place l = prepare_at l.order (drop l.place l.change.entries) ≡ prepare_at l.order l.change.entries
