-- The sum at each place.
use Rattle.std.proofs.Common.{◌≡◌, length, get_or, ◌∙◌, arith, rules}
use lib.Bits.{bit_xor}
use Rattle.streams.proofs.Arrays.{from_fn_same}
use Rattle.aes.proofs.Sums.{xors_places}
use Rattle.aes.proofs.blocks.xor.Goals as goal

pub returns : goal.returns
returns g c =
    let sums = from_fn_same _ (λ k. bit_xor (get_or c.args.a k 0) (get_or c.args.b.now k 0)) 0 _ _ _ (λ i y q k. search rules) c.from_fn.ensures.items in
    let l : length c.args.a ≡ g.row.N = omega arith in
    sums ∙ xors_places c.args.a c.args.b.now g.row.N l c.told-b
