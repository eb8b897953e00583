-- An entry of another order is passed over.
use Rattle.std.proofs.Common.{◌≡◌, Some, slice_get, sym, ap, ◌∙◌, rules}
use Rattle.parts.specs.Messages.{Prepare}
use Rattle.again.proofs.Finding.{order_passed}
use Rattle.again.proofs.gathering.entry_at.Goals as goal

pub loop-place-preserved : goal.loop-place-preserved
loop-place-preserved c =
    let at : Some c.in_ok-entry.entry ≡ slice_get c.args.change.now.entries c.loop-place.place = search rules in
    let other : c.in_ok-entry.entry.order ≡ c.args.order → ⊥ = λ e. c.if-from-order.false (c.from.ensures ∙ ap (λ (p : Prepare). p.order) c.entry.view_is ∙ e) in
    sym (order_passed c.args.order c.args.change.now.entries c.loop-place.place c.in_ok-entry.entry at other) ∙ c.loop-place.invariant
