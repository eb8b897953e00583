-- Each is of the order.
use Rattle.std.proofs.Common.{rules, ◌==◌}
use Rattle.std.proofs.lemmas.Iterator.Consumers.{YieldsList-from_first}
use Rattle.std.proofs.lemmas.Iterator.Search.{all_from_yields_List}
use borrow.Author.Tests.{tests}
use Rattle.parts.specs.Messages.{Checkpoint}
use Rattle.evidence.proofs.changes.all_of_order.Goals as goal

pub returns : goal.returns
returns c = all_from_yields_List (λ (m : Checkpoint). m.order == c.args.order.0) _ _ _ c.all.ensures.ran (YieldsList-from_first (λ m. m) (λ left. left) c.args.checkpoints.now c.iter.ensures) (λ m b f called. search (rules, tests))
