-- Each place in turn.
use Rattle.std.proofs.Common.{None, rules}
use Rattle.holdings.proofs.Lists.{all_read}
use Rattle.holdings.proofs.changes.read_all.Goals as goal

pub returns : goal.returns
returns c = all_read _ _ c.args.places.now None (λ i y q k. search rules) _ _ c.type_inv.places c.from_fn.ensures.items
