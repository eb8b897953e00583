-- A byte that is no digit, or a digit too many, ends the word's number.
use Rattle.std.proofs.Common.{◌+◌, get_or, drop, arith}
use Rattle.std.proofs.lemmas.List.{at_drop_more}
use Rattle.texts.specs.Numerals.{number_after, long_bound, long_of}
use Rattle.texts.proofs.Digits.{number_stops}
use Rattle.texts.proofs.numerals.read_long.Goals as goal

pub returns-in_err-number-clause-value : goal.returns-in_err-number-clause-value
unfolding long_of
returns-in_err-number-clause-value c =
    let word = c.args.word.now in
    let i = c.loop-byte.byte-index in
    let left = at_drop_more (number_after long_bound c.loop-byte.number) word i 0 c.loop-byte-test.true in
    let stop = number_stops c.loop-byte.number (get_or word i 0) (drop (i + 1) word) c.in_err-number.ensures in
    grind (arith, left, stop, c.loop-byte.invariant.0, c.from_residual.ensures)
