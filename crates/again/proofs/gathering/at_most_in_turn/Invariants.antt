-- What was gathered, and what is gathered from there on.
use Rattle.std.proofs.Common.{◌≡◌, ◌+◌, ◌-◌, ◌++◌, map, length}
use Rattle.drafts.specs.Says.{kept_prepare}
use Rattle.protocol.specs.Again.{in_turn, entries_from}
use Rattle.protocol.specs.Standing.{held}
use Rattle.again.proofs.gathering.at_most_in_turn.Given as goal

abbrev pub invariant-loop-behind : goal.invariant-loop-behind
invariant-loop-behind l = record {
  value : map kept_prepare l.prepares.items ++ in_turn (l.most - l.behind) (l.low.0 + l.behind) (map kept_prepare l.own ++ entries_from l.from.0 (held l.changes)) ≡ in_turn l.most l.low.0 (map kept_prepare l.own ++ entries_from l.from.0 (held l.changes));
  many : length l.prepares.items ≡ l.behind;
}
