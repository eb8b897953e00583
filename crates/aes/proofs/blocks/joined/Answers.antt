-- Each byte, by its word and its place.
use Rattle.std.proofs.Common.{[], ◌/◌, ◌%◌, get_or, rules}
use Rattle.streams.proofs.Arrays.{from_fn_same}
use Rattle.aes.proofs.blocks.joined.Goals as goal

pub returns : goal.returns
returns c = from_fn_same _ (λ k. get_or (get_or c.args.words (k / 4) []) (k % 4) 0) 0 _ _ _ (λ i y q k. search rules) c.from_fn.ensures.items
