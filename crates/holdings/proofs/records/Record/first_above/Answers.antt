-- What is found is found by what the entries are.
use Rattle.std.proofs.Common.{ap}
use Rattle.holdings.specs.Recorded.{Recorded}
use Rattle.holdings.proofs.Finding.{find_above}
use Rattle.holdings.proofs.records.Record.first_above.Goals as goal

pub returns : goal.returns
returns c =
    let found = find_above c.args.order c.self.inside.entries.items in
    let told = ap (λ (r : Recorded). r.entries) c.self.view_is in
    cc
