-- The proposals above the low mark get a vote, and ascend above it.
use Rattle.std.proofs.Common.{List, map, filter, nat_lt, ap, ◌∙◌}
use Rattle.drafts.specs.Says.{kept_prepare}
use Rattle.protocol.specs.Replicas.{Entry}
use Rattle.protocol.specs.Standing.{proposals, with_vote_of}
use Rattle.holdings.specs.Recorded.{Recorded, ascends}
use Rattle.holdings.proofs.Ascending.{supported_ascend, supported_kept}
use Rattle.holdings.proofs.records.Record.supported.Goals as goal

pub invariant_of-self : goal.invariant_of-self
invariant_of-self c =
    let low = c.self.inside.low.0 in
    let told = supported_kept c.args.leader low _ _ _ _ c.as_slice.ensures.value c.with_votes_of-self-inside.ensures c.drop_up_to.ensures in
    ap (λ (es : List Entry). ascends low (proposals es)) told ∙ supported_ascend c.args.leader low (map kept_prepare c.args.list.now.items) c.requires

pub returns : goal.returns
returns c =
    let low = c.self.inside.low.0 in
    let told = supported_kept c.args.leader low _ _ _ _ c.as_slice.ensures.value c.with_votes_of-self-inside.ensures c.drop_up_to.ensures in
    (λ i. record { from = c.args.from.0; low = low; entries = told i })
    ∙ ap (λ (s : Recorded). record { from = c.args.from.0; low = s.low; entries = map (with_vote_of c.args.leader) (filter (λ p. nat_lt s.low p.order) (map kept_prepare c.args.list.now.items)) }) c.self.view_is
