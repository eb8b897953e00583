-- The first PREPAREs, moved to the view.
use Rattle.std.proofs.Common.{◌≡◌, [], length, map, take}
use Rattle.drafts.specs.Says.{kept_prepare, prepare_with}
use Rattle.protocol.specs.Again.{moved_to}
use Rattle.again.proofs.proposals.proposed_again.Given as goal

abbrev pub invariant-loop-prepare : goal.invariant-loop-prepare
invariant-loop-prepare l = record {
  value : map (λ d. prepare_with d []) l.proposals.items ≡ map (moved_to l.view.0) (map kept_prepare (take l.prepare-index l.prepare-items));
  many : length l.proposals.items ≡ l.prepare-index;
}
