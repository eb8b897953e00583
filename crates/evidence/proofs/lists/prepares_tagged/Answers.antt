-- Each PREPARE shows its tag.
use Rattle.std.proofs.Common.{[], ◌∷◌, ◌∙◌, rules}
use Rattle.std.proofs.lemmas.Iterator.Consumers.{YieldsList-from_first}
use Rattle.std.proofs.lemmas.Iterator.Search.{all_from_yields_List}
use borrow.Author.Tests.{tests}
use Rattle.protocol.specs.Showings.{prepare_shows}
use Rattle.evidence.specs.Tags.{tag_holds, tags_hold}
use Rattle.evidence.proofs.Each.{one_each}
use Rattle.evidence.proofs.lists.prepares_tagged.Goals as goal

pub returns : goal.returns
returns g c =
    all_from_yields_List (λ m. tags_hold (g.K.Checker.rule c.args.checker.now) (prepare_shows (g.K.Checker.size c.args.checker.now) m ∷ [])) _ _ _ c.all.ensures.ran (YieldsList-from_first (λ m. m) (λ left. left) c.args.prepares.now c.iter.ensures) (λ m b f called. search (rules, tests))
    ∙ one_each (tag_holds (g.K.Checker.rule c.args.checker.now)) (prepare_shows (g.K.Checker.size c.args.checker.now)) c.args.prepares.now
