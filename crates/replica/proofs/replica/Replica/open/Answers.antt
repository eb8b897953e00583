-- The leader opens its view, or its counter refuses.
use Rattle.std.proofs.Common.{rules}
use Rattle.replica.specs.Standings.{standing_of}
use Rattle.replica.proofs.Opening.{refused, opens, kept_ascends, few_taken}
use Rattle.replica.proofs.replica.Replica.open.Goals as goal

pub returns-then-not-grants_opening : goal.returns-then-not-grants_opening
returns-then-not-grants_opening g c =
    let r = standing_of g.C.Checker.size g.C.Counter.seat g.C.Checker.rule g.C.Counter.values g.S.Service.state c.args.self.now in
    refused r c.args.out.now (search rules) (search rules) (search rules) (search rules) _ _ c.proposed_again-again.ensures (search rules) _ c.grants_opening.ensures c.if-not-grants_opening.true

pub issue_new_view-prepares-requires-clause-few : goal.issue_new_view-prepares-requires-clause-few
issue_new_view-prepares-requires-clause-few g c = few_taken _ _ _ _ c.group.result.few c.quorum.ensures.value c.lowest-changes.ensures

pub accept-requires : goal.accept-requires
accept-requires g c = kept_ascends (g.C.Checker.rule c.args.self.now.counter) (g.C.Counter.seat c.args.self.now.counter) _ _ _ _ c.issue_new_view-prepares.ensures.prepares c.proposed_again-again.ensures

pub returns : goal.returns
returns g c =
    let r = standing_of g.C.Checker.size g.C.Counter.seat g.C.Checker.rule g.C.Counter.values g.S.Service.state c.args.self.now in
    opens r c.args.out.now (search rules) (search rules) (search rules) (search rules) _ _ c.proposed_again-again.ensures (search rules) _ c.grants_opening.ensures c.if-not-grants_opening.false
    _ c.highest_low-low.ensures _ c.issue_new_view-prepares.ensures.prepares (standing_of g.C.Checker.size g.C.Counter.seat g.C.Checker.rule g.C.Counter.values g.S.Service.state (record c.args.self.now { counter = c.issue_new_view-prepares.new.counter })) _ (search rules) c.accept.ensures _ c.issue_new_view-prepares.ensures.bytes _ c.issue_new_view-prepares.ensures.out
