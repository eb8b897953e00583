-- Each VIEW-CHANGE has its senders.
use Rattle.std.proofs.Common.{rules, ◌∙◌}
use Rattle.std.proofs.lemmas.Iterator.Consumers.{YieldsList-from_first}
use Rattle.std.proofs.lemmas.Iterator.Search.{all_from_yields_List}
use borrow.Author.Tests.{tests}
use Rattle.protocol.specs.Showings.{change_senders}
use Rattle.evidence.specs.Senders.{all_seated}
use Rattle.evidence.proofs.Each.{some_senders}
use Rattle.evidence.proofs.lists.changes_seated.Goals as goal

pub returns : goal.returns
returns c =
    all_from_yields_List (λ m. all_seated c.args.group.seats (change_senders m)) _ _ _ c.all.ensures.ran (YieldsList-from_first (λ m. m) (λ left. left) c.args.changes.now c.iter.ensures) (λ m b f called. search (rules, tests))
    ∙ some_senders c.args.group.seats change_senders c.args.changes.now
