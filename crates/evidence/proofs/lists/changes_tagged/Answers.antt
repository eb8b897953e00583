-- Each VIEW-CHANGE shows its tag and those of what is nested in it.
use Rattle.std.proofs.Common.{rules, ◌∙◌}
use Rattle.std.proofs.lemmas.Iterator.Consumers.{YieldsList-from_first}
use Rattle.std.proofs.lemmas.Iterator.Search.{all_from_yields_List}
use borrow.Author.Tests.{tests}
use Rattle.protocol.specs.Showings.{change_shows}
use Rattle.evidence.specs.Tags.{tag_holds, tags_hold}
use Rattle.evidence.proofs.Each.{some_each}
use Rattle.evidence.proofs.lists.changes_tagged.Goals as goal

pub returns : goal.returns
returns g c =
    all_from_yields_List (λ m. tags_hold (g.K.Checker.rule c.args.checker.now) (change_shows (g.K.Checker.size c.args.checker.now) m)) _ _ _ c.all.ensures.ran (YieldsList-from_first (λ m. m) (λ left. left) c.args.changes.now c.iter.ensures) (λ m b f called. search (rules, tests))
    ∙ some_each (tag_holds (g.K.Checker.rule c.args.checker.now)) (change_shows (g.K.Checker.size c.args.checker.now)) c.args.changes.now
