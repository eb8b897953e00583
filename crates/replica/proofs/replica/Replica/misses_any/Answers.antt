-- Each of them is asked.
use Rattle.std.proofs.Common.{rules}
use Rattle.std.proofs.lemmas.Iterator.Consumers.{YieldsList-from_first}
use Rattle.std.proofs.lemmas.Iterator.Search.{any_from_yields_List}
use borrow.Author.Tests.{tests}
use Rattle.protocol.specs.Standing.{note_of, note_lacks}
use Rattle.replica.proofs.replica.Replica.misses_any.Goals as goal

pub returns : goal.returns
returns g c = any_from_yields_List (λ m. note_lacks m (note_of m.from c.args.self.now.notes)) _ _ _ c.any.ensures.ran (YieldsList-from_first (λ m. m) (λ left. left) c.args.changes.now c.iter.ensures) (λ m b f called. search (rules, tests))
