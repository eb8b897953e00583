-- Each CHECKPOINT has one sender.
use Rattle.std.proofs.Common.{[], ◌∷◌, ◌∙◌, rules}
use Rattle.std.proofs.lemmas.Iterator.Consumers.{YieldsList-from_first}
use Rattle.std.proofs.lemmas.Iterator.Search.{all_from_yields_List}
use borrow.Author.Tests.{tests}
use Rattle.parts.specs.Messages.{Checkpoint}
use Rattle.evidence.specs.Senders.{all_seated}
use Rattle.evidence.proofs.Each.{one_sender}
use Rattle.evidence.proofs.lists.checkpoints_seated.Goals as goal

pub returns : goal.returns
returns c =
    all_from_yields_List (λ (m : Checkpoint). all_seated c.args.group.seats (m.sender ∷ [])) _ _ _ c.all.ensures.ran (YieldsList-from_first (λ m. m) (λ left. left) c.args.checkpoints.now c.iter.ensures) (λ m b f called. search (rules, tests))
    ∙ one_sender c.args.group.seats (λ (m : Checkpoint). m.sender) c.args.checkpoints.now
