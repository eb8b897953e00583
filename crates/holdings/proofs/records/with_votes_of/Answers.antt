-- At the end all proposals have an entry.
use Rattle.std.proofs.Common.{List, map, ap, ◌∙◌, arith, take_all}
use Rattle.drafts.specs.Says.{kept_prepare}
use Rattle.drafts.specs.declared.prepare.PrepareDraft.{PrepareDraft}
use Rattle.drafts.specs.declared.tagged.Tagged.{Tagged}
use Rattle.protocol.specs.Standing.{with_vote_of}
use Rattle.holdings.proofs.Lists.{map_map}
use Rattle.holdings.proofs.records.with_votes_of.Goals as goal

pub returns : goal.returns
returns c =
    let list = c.args.list.now in
    c.loop-proposal.invariant.made
    ∙ ap (λ (ts : List (Tagged PrepareDraft)). map (λ t. with_vote_of c.args.seat (kept_prepare t)) ts) (take_all c.loop-proposal.proposal-index list (omega arith))
    ∙ map_map kept_prepare (with_vote_of c.args.seat) list
