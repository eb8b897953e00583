-- Each byte moves, and the last one takes in a 0, as nothing stands behind it.
use Rattle.std.proofs.Common.{◌+◌, get_or, rules}
use Rattle.aes.specs.Cmac.{moved_left, shift_left}
use Rattle.streams.proofs.Arrays.{from_fn_same}
use Rattle.aes.proofs.subkeys.shift_left.Goals as goal

pub returns : goal.returns
unfolding shift_left
returns c =
    let b = c.args.block in
    from_fn_same _ (λ k. moved_left (get_or b k 0) (get_or b (k + 1) 0)) 0 _ _ _ (λ i y q k. search rules) c.from_fn.ensures.items
