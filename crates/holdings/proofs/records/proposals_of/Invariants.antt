-- The proposals of the entries so far.
use Rattle.std.proofs.Common.{◌≡◌, ◌≤◌, length, map, take}
use Rattle.drafts.specs.Says.{kept_prepare}
use Rattle.holdings.proofs.records.proposals_of.Given as goal

abbrev pub invariant-loop-entry : goal.invariant-loop-entry
invariant-loop-entry l = record {
  few : length l.list.items ≤ l.entry-index;
  made : map kept_prepare l.list.items ≡ map (λ e. kept_prepare e.proposal) (take l.entry-index l.entries);
}
