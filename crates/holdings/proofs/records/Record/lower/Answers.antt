-- What is left ascends above the new mark.
use Rattle.std.proofs.Common.{List, ap, ◌∙◌}
use Rattle.protocol.specs.Replicas.{Entry}
use Rattle.protocol.specs.Standing.{proposals}
use Rattle.holdings.specs.Kept.{kept_entries}
use Rattle.holdings.specs.Recorded.{ascends}
use Rattle.holdings.proofs.Ascending.{ascends_above}
use Rattle.holdings.proofs.records.Record.lower.Goals as goal

pub invariant_of-self : goal.invariant_of-self
invariant_of-self c =
    let r = c.self.inside in
    ap (λ (es : List Entry). ascends c.args.order.0 (proposals es)) c.drop_up_to.ensures
    ∙ ascends_above c.args.order.0 r.low.0 (kept_entries r.entries.items) c.self.invariant
