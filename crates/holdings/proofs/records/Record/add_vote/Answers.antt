-- A vote is written in place, and changes no proposal.
use Rattle.std.proofs.Common.{List, ap, ◌∙◌}
use Rattle.protocol.specs.Replicas.{Entry}
use Rattle.protocol.specs.Standing.{proposals, vote_added}
use Rattle.holdings.specs.Recorded.{Recorded, ascends}
use Rattle.holdings.proofs.Ascending.{proposals_stay}
use Rattle.holdings.proofs.Finding.{vote_written}
use Rattle.holdings.specs.Kept.{kept_entries}
use Rattle.holdings.proofs.records.Record.add_vote.Goals as goal

pub invariant_of-self : goal.invariant_of-self
invariant_of-self c =
    let r = c.self.inside in
    let written = vote_written c.args.seat c.args.order.0 r.entries _ _ c.add_vote.ensures c.as_mut_slice.ensures.value in
    ap (λ (es : List Entry). ascends r.low.0 (proposals es)) written
    ∙ ap (ascends r.low.0) (proposals_stay c.args.seat c.args.order.0 (kept_entries r.entries.items))
    ∙ c.self.invariant

pub returns : goal.returns
returns c =
    let r = c.self.inside in
    let written = vote_written c.args.seat c.args.order.0 r.entries _ _ c.add_vote.ensures c.as_mut_slice.ensures.value in
    (λ i. record { from = r.from.0; low = r.low.0; entries = written i })
    ∙ ap (λ (s : Recorded). record { from = s.from; low = s.low; entries = vote_added c.args.seat c.args.order.0 s.entries }) c.self.view_is
