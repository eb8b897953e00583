-- An entry for each proposal so far.
use Rattle.std.proofs.Common.{◌≡◌, ◌≤◌, length, map, take}
use Rattle.drafts.specs.Says.{kept_prepare}
use Rattle.protocol.specs.Standing.{without_votes}
use Rattle.holdings.specs.Kept.{kept_entry}
use Rattle.holdings.proofs.records.without_votes.Given as goal

abbrev pub invariant-loop-proposal : goal.invariant-loop-proposal
invariant-loop-proposal l = record {
  few : length l.entries.items ≤ l.proposal-index;
  made : map kept_entry l.entries.items ≡ map (λ t. without_votes (kept_prepare t)) (take l.proposal-index l.list);
}
