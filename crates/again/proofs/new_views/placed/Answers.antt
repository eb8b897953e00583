-- The array holds what `get` answers at each place.
use Rattle.std.proofs.Common.{None, slice_get, ap, ◌∙◌, rules}
use Rattle.std.proofs.lemmas.List.FromFn.{fill_by_all}
use Rattle.terms.specs.Numbers.{largest_quorum}
use Rattle.protocol.specs.Standing.{held}
use Rattle.again.proofs.Lists.{all_placed}
use Rattle.again.proofs.new_views.placed.Goals as goal

pub returns : goal.returns
returns c =
    let changes = c.args.changes.now in
    let made = fill_by_all (slice_get changes) c.from_fn.result largest_quorum None c.from_fn.ensures.items.long (λ k inside. let (_, _, called) = c.from_fn.ensures.items.at k None inside in search rules) in
    ap held made ∙ all_placed largest_quorum changes c.requires
