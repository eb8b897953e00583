-- What is kept of the entries is what is kept of their values.
use Rattle.std.proofs.Common.{nat_lt, ap, ◌∙◌, sym, rules}
use Rattle.arrayvec.proofs.ArrayVecLemmas.{filter-from_retain}
use Rattle.holdings.specs.Kept.{kept_entry, kept_entries}
use Rattle.holdings.proofs.Lists.{filter_mapped}
use Rattle.holdings.proofs.records.drop_up_to.Goals as goal

pub returns : goal.returns
returns c =
    let kept = filter-from_retain _ (λ e. nat_lt c.args.order.0 e.proposal.draft.order.0) _ (λ x b f' y called. search rules) _ _ c.retain.ensures.filtered in
    ap kept_entries kept ∙ sym (filter_mapped kept_entry (λ e. nat_lt c.args.order.0 e.proposal.order) c.args.entries.now.items)
