-- What is left of both lists.
use Rattle.std.proofs.Common.{◌≡◌, [], drop, map}
use Rattle.drafts.specs.Says.{prepare_with}
use Rattle.protocol.specs.Take.{same_proposals}
use Rattle.again.proofs.proposals.same_proposals.Given as goal

abbrev pub invariant-loop-place : goal.invariant-loop-place
invariant-loop-place l = same_proposals (drop l.place l.prepares) (map (λ d. prepare_with d []) (drop l.place l.again)) ≡ same_proposals l.prepares (map (λ d. prepare_with d []) l.again)
