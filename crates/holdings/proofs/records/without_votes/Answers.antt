-- At the end all proposals have an entry.
use Rattle.std.proofs.Common.{List, map, ap, ◌∙◌, arith, take_all}
use Rattle.drafts.specs.Says.{kept_prepare}
use Rattle.drafts.specs.declared.prepare.PrepareDraft.{PrepareDraft}
use Rattle.drafts.specs.declared.tagged.Tagged.{Tagged}
use Rattle.protocol.specs.Standing.{without_votes}
use Rattle.holdings.proofs.Lists.{map_map}
use Rattle.holdings.proofs.records.without_votes.Goals as goal

pub returns : goal.returns
returns c =
    let list = c.args.list.now in
    c.loop-proposal.invariant.made
    ∙ ap (λ (ts : List (Tagged PrepareDraft)). map (λ t. without_votes (kept_prepare t)) ts) (take_all c.loop-proposal.proposal-index list (omega arith))
    ∙ map_map kept_prepare (without_votes) list
