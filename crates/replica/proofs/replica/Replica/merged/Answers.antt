-- What is gathered stands in line above the low mark.
use Rattle.std.proofs.Common.{ℕ, map, sym, ap, ◌∙◌}
use Rattle.terms.specs.Numbers.{window}
use Rattle.drafts.specs.Says.{kept_prepare}
use Rattle.holdings.specs.Recorded.{ascends}
use Rattle.again.proofs.Orders.{in_turn_ascends}
use Rattle.replica.proofs.replica.Replica.merged.Goals as goal

pub returns-clause-in_line : goal.returns-clause-in_line
returns-clause-in_line g c =
    ap (λ (low : ℕ). ascends low (map kept_prepare c.in_turn-known.result.items)) (sym c.low.ensures)
    ∙ ap (ascends c.low.result.0) c.in_turn-known.ensures
    ∙ in_turn_ascends window c.low.result.0 _
