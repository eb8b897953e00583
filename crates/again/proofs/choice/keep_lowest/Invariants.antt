-- What was kept, and what is kept of the places that are left.
use Rattle.std.proofs.Common.{◌≡◌, ◌-◌, ◌≤◌, ◌++◌, take, drop}
use Rattle.protocol.specs.Standing.{held}
use Rattle.again.proofs.choice.keep_lowest.Given as goal

abbrev pub invariant-loop-place : goal.invariant-loop-place
invariant-loop-place l = record {
  value : held (take l.place-index l.changes) ++ take (l.most - l.kept) (held (drop l.place-index l.changes)) ≡ take l.most (held l.fn.changes);
  few : l.kept ≤ l.most;
}
