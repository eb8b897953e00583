-- At the end all proposals are there.
use Rattle.std.proofs.Common.{List, map, ap, ◌∙◌, arith, take_all}
use Rattle.drafts.specs.Says.{kept_prepare}
use Rattle.holdings.specs.declared.entries.Entry.{Entry}
use Rattle.holdings.proofs.records.proposals_of.Goals as goal

pub returns : goal.returns
returns c = c.loop-entry.invariant.made ∙ ap (λ (es : List Entry). map (λ e. kept_prepare e.proposal) es) (take_all c.loop-entry.entry-index c.args.entries.now (omega arith))
