-- Those that are left ascend from the least that may come.
use Rattle.std.proofs.Common.{◌≡◌, map}
use Rattle.message.specs.Messages.{ViewChange}
use Rattle.protocol.specs.Changes.{ascend}
use Rattle.evidence.proofs.changes.changes_ascend.Given as goal

abbrev pub invariant-loop-change : goal.invariant-loop-change
invariant-loop-change l = ascend l.least (map (λ (c : ViewChange). c.sender) l.change-iterator) ≡ ascend 0 (map (λ (c : ViewChange). c.sender) l.changes)
