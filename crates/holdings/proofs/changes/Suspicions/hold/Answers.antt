-- A seat with no place changes nothing.
use Rattle.std.proofs.Common.{length, ap, sym, arith}
use Rattle.std.proofs.lemmas.List.{set_past}
use Rattle.holdings.proofs.changes.Suspicions.hold.Goals as goal

pub returns-else-seat-lt5 : goal.returns-else-seat-lt5
returns-else-seat-lt5 c = sym (set_past c.args.self.now c.args.seat _ (omega (arith, ap length c.self.view_is, c.self.invariant, c.if-seat-lt5.false)))
