-- Each call gives one sum.
use Rattle.std.proofs.Common.{rules}
use Rattle.std.specs.List.{slice_index}
use Rattle.sha256.specs.Sha256.{add}
use Rattle.streams.proofs.Arrays.{from_fn_same}
use Rattle.sha256.proofs.compression.added.Goals as goal

pub returns : goal.returns
returns c = from_fn_same _ (λ i. add (slice_index c.args.s i) (slice_index c.args.h i)) 0 _ _ _ (λ i y q k. search rules) c.from_fn.ensures.items
