-- What is asked of the places that are left.
use Rattle.std.proofs.Common.{◌≡◌, map, drop}
use Rattle.protocol.specs.Changes.{ascend}
use Rattle.protocol.specs.Standing.{held}
use Rattle.again.proofs.new_views.senders_ascend.Given as goal

abbrev pub invariant-loop-place : goal.invariant-loop-place
invariant-loop-place l = ascend l.bound (map (λ c. c.sender) (held (drop l.place-index l.changes))) ≡ ascend 0 (map (λ c. c.sender) (held l.changes))
