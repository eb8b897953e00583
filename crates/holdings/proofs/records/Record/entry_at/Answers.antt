-- What is found is found by what the entries are.
use Rattle.std.proofs.Common.{ap}
use Rattle.holdings.specs.Recorded.{Recorded}
use Rattle.holdings.proofs.Finding.{find_entry}
use Rattle.holdings.proofs.records.Record.entry_at.Goals as goal

pub returns-clause-value : goal.returns-clause-value
returns-clause-value c =
    let found = find_entry c.args.order c.self.inside.entries.items in
    let told = ap (λ (r : Recorded). r.entries) c.self.view_is in
    cc
