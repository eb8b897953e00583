use Rattle.std.proofs.Common.{◌≡◌, true, map, take, drop, length, slice_index, slice_set}
use Rattle.drafts.specs.Says.{kept_prepare}
use Rattle.parts.specs.Statements.{order_counter}
use Rattle.protocol.specs.Open.{rise, value_behind}
use Rattle.replica.specs.Signing.{bare, signed}
use Rattle.replica.proofs.signing.sign_all.Given as goal

-- the PREPAREs so far are certified; what is left rises from the counter's value, and leads to the same value as all
abbrev pub invariant-loop-draft : goal.invariant-loop-draft
invariant-loop-draft g l =
    (map kept_prepare l.prepares.items ≡ map (signed (g.C.Checker.rule l.fn.counter) (g.C.Counter.seat l.fn.counter)) (bare (take l.draft-index l.again.items)))
    × (length l.prepares.items ≡ l.draft-index)
    × (rise (slice_index (g.C.Counter.values l.counter) order_counter) (bare (drop l.draft-index l.again.items)) ≡ true)
    × (value_behind (slice_index (g.C.Counter.values l.counter) order_counter) (bare (drop l.draft-index l.again.items)) ≡ value_behind (slice_index (g.C.Counter.values l.fn.counter) order_counter) (bare l.again.items))
    × (g.C.Counter.values l.counter ≡ slice_set (g.C.Counter.values l.fn.counter) order_counter (slice_index (g.C.Counter.values l.counter) order_counter))
    × (g.C.Counter.seat l.counter ≡ g.C.Counter.seat l.fn.counter)
    × (g.C.Checker.size l.counter ≡ g.C.Checker.size l.fn.counter)
    × (g.C.Checker.rule l.counter ≡ g.C.Checker.rule l.fn.counter)
