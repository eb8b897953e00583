-- Each of the others has the digest of the first.
use Rattle.std.proofs.Common.{ap, bytes_eq, refl, rules, sym, ◌∙◌}
use Rattle.std.proofs.lemmas.Iterator.Consumers.{YieldsList-from_first}
use Rattle.std.proofs.lemmas.Iterator.Search.{all_from_yields_List}
use borrow.Author.Tests.{tests}
use Rattle.parts.specs.Messages.{Checkpoint}
use Rattle.protocol.specs.Changes.{one_digest}
use Rattle.evidence.proofs.changes.one_digest.Goals as goal

pub returns : goal.returns
returns c =
    all_from_yields_List (λ (m : Checkpoint). bytes_eq c.in-Some.first.digest m.digest) _ _ _ c.all.ensures.ran (YieldsList-from_first (λ m. m) (λ left. left) c.next.new.self refl) (λ m b f called. search (rules, tests))
    ∙ ap one_digest (sym c.in-Some.ensures.steps ∙ c.iter-others.ensures)
