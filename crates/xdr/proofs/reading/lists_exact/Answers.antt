-- The law of counted lists, at the type of the elements.
use Rattle.xdr.proofs.Listing.{lists_exact}
use Rattle.xdr.proofs.reading.lists_exact.Goals as goal

pub returns : goal.returns
returns g c = λ fits write read most small exact. lists_exact exact most small
