-- The results hold by computation.
use Rattle.std.proofs.Common.{refl}
use Rattle.vectors.proofs.Computed.{published}
use Rattle.vectors.proofs.proved.proved_results.Goals as goal

pub returns : goal.returns
returns c = record { count = refl; results = published }
