-- Those that are left ascend from the least that may come.
use Rattle.std.proofs.Common.{◌≡◌, map}
use Rattle.parts.specs.Messages.{Checkpoint}
use Rattle.protocol.specs.Changes.{ascend}
use Rattle.evidence.proofs.changes.checkpoints_ascend.Given as goal

abbrev pub invariant-loop-checkpoint : goal.invariant-loop-checkpoint
invariant-loop-checkpoint l = ascend l.least (map (λ (c : Checkpoint). c.sender) l.checkpoint-iterator) ≡ ascend 0 (map (λ (c : Checkpoint). c.sender) l.checkpoints)
