-- Each turn goes one place on.
use Rattle.std.proofs.Common.{◌∙◌, arith}
use Rattle.parts.proofs.Lists.{none_behind, place_behind, place_here, place_missing}
use Rattle.parts.specs.Reading.{of_type}
use Rattle.parts.proofs.nested.Nested.get.Goals as goal

pub returns-then-place-self : goal.returns-then-place-self
returns-then-place-self g c = none_behind (of_type g.M.Delivered.number g.M.Delivered.rest_from) c.args.self.now.count c.args.place c.args.self.now.bytes.now c.if-place-self.true

pub returns-in_err-behind : goal.returns-in_err-behind
returns-in_err-behind g c = c.from_residual.ensures ∙ place_missing (of_type g.M.Delivered.number g.M.Delivered.rest_from) c.args.self.now.count c.args.place c.loop.counter c.loop.rest.now c.in_err-behind.ensures ∙ c.loop.invariant

pub loop-preserved : goal.loop-preserved
loop-preserved g c = place_behind (of_type g.M.Delivered.number g.M.Delivered.rest_from) c.args.self.now.count c.args.place c.loop.counter c.loop.rest.now _ c.in_ok-behind.behind.now c.loop-test.true (omega (arith, c.if-place-self.false)) c.in_ok-behind.ensures ∙ c.loop.invariant

pub returns-in_err-message : goal.returns-in_err-message
returns-in_err-message g c = c.from_residual-in_err-message.ensures ∙ place_missing (of_type g.M.Delivered.number g.M.Delivered.rest_from) c.args.self.now.count c.args.place c.loop.counter c.loop.rest.now c.in_err-message.ensures ∙ c.loop.invariant

pub returns : goal.returns
returns g c = place_here (of_type g.M.Delivered.number g.M.Delivered.rest_from) c.args.self.now.count c.args.place c.loop.counter c.loop.rest.now _ c.in_ok-message.field-0-1.now (omega (arith, c.loop-test.false)) (omega (arith, c.loop.auto.counter-end)) (omega (arith, c.if-place-self.false)) c.in_ok-message.ensures ∙ c.loop.invariant
