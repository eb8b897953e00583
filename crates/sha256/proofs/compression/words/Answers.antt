-- Each call gives one word of the block.
use Rattle.std.proofs.Common.{rules}
use Rattle.sha256.specs.Sha256.{word, words}
use Rattle.streams.proofs.Arrays.{from_fn_same}
use Rattle.sha256.proofs.compression.words.Goals as goal

pub returns : goal.returns
unfolding words
returns c = from_fn_same _ (word c.args.block.now) 0 _ _ _ (λ i y q k. search rules) c.from_fn.ensures.items
