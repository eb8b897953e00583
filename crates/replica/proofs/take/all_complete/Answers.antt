-- Each of them is asked.
use Rattle.std.proofs.Common.{rules}
use Rattle.std.proofs.lemmas.Iterator.Consumers.{YieldsList-from_first}
use Rattle.std.proofs.lemmas.Iterator.Search.{all_from_yields_List}
use borrow.Author.Tests.{tests}
use Rattle.protocol.specs.Changes.{complete}
use Rattle.replica.proofs.take.all_complete.Goals as goal

pub returns : goal.returns
returns c = all_from_yields_List (complete c.args.group.seats) _ _ _ c.all.ensures.ran (YieldsList-from_first (λ m. m) (λ left. left) c.args.changes.now c.iter.ensures) (λ m b f called. search (rules, tests))
