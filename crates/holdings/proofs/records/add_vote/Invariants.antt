-- The entries so far have the vote, and the others are as they were.
use Rattle.std.proofs.Common.{◌≡◌, ◌++◌, map, take, drop}
use Rattle.holdings.specs.Kept.{voted}
use Rattle.holdings.proofs.records.add_vote.Given as goal

abbrev pub invariant-loop-entry : goal.invariant-loop-entry
invariant-loop-entry l = l.entry-items ≡ map (voted l.seat l.order.0) (take l.entry-index l.initial.entry-items) ++ drop l.entry-index l.initial.entry-items
