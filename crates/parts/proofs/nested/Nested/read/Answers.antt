-- Each turn reads one more.
use Rattle.std.proofs.Common.{ap, ◌∙◌, arith}
use Rattle.std.specs.Option.{option_map}
use Rattle.parts.specs.Lists.{listed_and_rest}
use Rattle.parts.proofs.Lists.{none_read, one_more, list_stops, list_read, count_kept}
use Rattle.parts.specs.Reading.{of_type}
use Rattle.parts.proofs.nested.Nested.read.Goals as goal

pub loop-init : goal.loop-init
loop-init g c = none_read (of_type g.M.Delivered.number g.M.Delivered.rest_from) c.in_ok-count.bytes.now

pub returns-in_err-behind-clause-value : goal.returns-in_err-behind-clause-value
returns-in_err-behind-clause-value g c =
    ap (option_map (listed_and_rest (of_type g.M.Delivered.number g.M.Delivered.rest_from))) c.from_residual-in_err-behind.ensures
    ∙ list_stops (of_type g.M.Delivered.number g.M.Delivered.rest_from) c.args.most c.loop.counter c.in_ok-count.count c.args.bytes.now c.in_ok-count.bytes.now c.loop.rest.now c.in_ok-count.ensures.value c.loop-test.true c.loop.invariant c.in_err-behind.ensures

pub loop-preserved : goal.loop-preserved
loop-preserved g c = one_more (of_type g.M.Delivered.number g.M.Delivered.rest_from) c.loop.counter c.in_ok-count.bytes.now c.loop.rest.now _ c.in_ok-behind.behind.now c.loop.invariant c.in_ok-behind.ensures

pub returns-clause-all : goal.returns-clause-all
returns-clause-all g c = count_kept (of_type g.M.Delivered.number g.M.Delivered.rest_from) c.loop.counter c.in_ok-count.count c.in_ok-count.bytes.now c.loop.rest.now (omega (arith, c.loop-test.false)) (omega (arith, c.loop.auto.counter-end)) c.loop.invariant

pub returns-clause-value : goal.returns-clause-value
returns-clause-value g c = list_read (of_type g.M.Delivered.number g.M.Delivered.rest_from) c.args.most c.loop.counter c.in_ok-count.count c.args.bytes.now c.in_ok-count.bytes.now c.loop.rest.now c.in_ok-count.ensures.value (omega (arith, c.loop-test.false)) (omega (arith, c.loop.auto.counter-end)) c.loop.invariant
