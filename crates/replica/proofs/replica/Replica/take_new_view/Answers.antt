-- A NEW-VIEW against which nothing speaks is accepted.
use Rattle.std.proofs.Common.{rules, ◌≡◌, ℕ, Bool, not, map, List, Some, Ok, Option, ap, ◌∙◌, refl}
use Rattle.terms.specs.declared.refusals.Refusal.TheVariants.{UnfoundedNewView}
use Rattle.parts.specs.Messages.{Prepare}
use Rattle.message.specs.declared.message.Message.TheVariants.{NewView}
use Rattle.drafts.specs.Says.{kept_prepare}
use Rattle.again.specs.Foundation.{foundation}
use Rattle.protocol.specs.Accept.{accepted}
use Rattle.protocol.specs.Outcomes.{unless}
use Rattle.protocol.specs.Standing.{settled}
use Rattle.protocol.specs.Take.{Taken, took, founded_on, take_new_view}
use Rattle.replica.specs.Judging.{judged, message_tests, change_tests}
use Rattle.replica.specs.Standings.{standing_of}
use Rattle.replica.proofs.Orders.{founded_told, accepted_told}
use Rattle.replica.proofs.Tests.{goes_on}
use Rattle.replica.proofs.replica.Replica.take_new_view.Goals as goal

pub returns : goal.returns
returns g c =
    let w = c.args.new_view.now in
    let r = standing_of g.C.Checker.size g.C.Counter.seat g.C.Checker.rule g.C.Counter.values g.S.Service.state c.args.self.now in
    let told : ◌≡◌ {A = Option (ℕ × List Prepare)} (Some (c.in-Some.low.0, map kept_prepare c.in-Some.prepares.items)) (foundation r.size w) =
    c.in-Some.ensures.value ∙ ap (λ n. foundation n w) c.group.ensures in
    let after : Taken g.S.Service.State = took (NewView w) (accepted r w) in
    let later : Taken g.S.Service.State = unless (not (founded_on r w)) UnfoundedNewView r tt after in
    let heard : judged (message_tests r w) ≡ Ok tt = search rules in
    let shown : judged (change_tests r w.changes) ≡ Ok tt = search rules in
    let first = goes_on r tt _ (message_tests r w) heard in
    let second = goes_on r tt later (change_tests r w.changes) shown in
    let third : later ≡ after = ap (λ (b : Bool). unless (not b) UnfoundedNewView r tt after) (founded_told r w _ _ told) in
    let whole : take_new_view r w ≡ after = first ∙ second ∙ third in
    let entered : standing_of g.C.Checker.size g.C.Counter.seat g.C.Checker.rule g.C.Counter.values g.S.Service.state c.accept.new.self ≡ accepted r w = search (rules, accepted_told r w _ _ told) in
    let left = c.settle.ensures ∙ ap settled entered in
    rw (whole, left) refl
