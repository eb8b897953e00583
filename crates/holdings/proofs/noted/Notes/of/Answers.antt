-- What is found is found by what the notes are.
use Rattle.holdings.proofs.Finding.{find_note}
use Rattle.holdings.proofs.noted.Notes.of.Goals as goal

pub returns : goal.returns
returns c = let found = find_note c.args.view.0 c.self.inside.list.items in cc
