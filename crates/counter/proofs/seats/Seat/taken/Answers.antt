-- The laws stand beside the parts of the seat.
use Rattle.std.proofs.Common.{refl}
use Rattle.counter.proofs.Lines.{counter_laws}
use Rattle.counter.proofs.seats.Seat.taken.Goals as goal

pub returns : goal.returns
returns c = record { group = refl; number = refl; laws = counter_laws }
