-- The last of those that are left, or the last so far.
use Rattle.std.proofs.Common.{◌≡◌}
use Rattle.protocol.specs.Changes.{last_order, last_of}
use Rattle.evidence.proofs.changes.last_of.Given as goal

abbrev pub invariant-loop-prepare : goal.invariant-loop-prepare
invariant-loop-prepare l = last_order l.last.0 l.prepare-iterator ≡ last_of l.change
