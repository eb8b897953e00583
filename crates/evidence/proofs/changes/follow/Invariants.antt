-- Those that are left go on from the next order.
use Rattle.std.proofs.Common.{◌≡◌, ◌-◌, ◌<◌}
use Rattle.protocol.specs.Changes.{follow}
use Rattle.evidence.proofs.changes.follow.Given as goal

abbrev pub invariant-loop-prepare : goal.invariant-loop-prepare
invariant-loop-prepare l = record {
  above : 0 < l.next;
  left : follow l.view.0 (l.next - 1) l.prepare-iterator ≡ follow l.fn.view.0 l.fn.low.0 l.prepares;
}
