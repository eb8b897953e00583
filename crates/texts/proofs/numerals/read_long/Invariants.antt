-- The digits that are left give the number, behind the number so far.
use Rattle.std.proofs.Common.{◌≡◌, ◌<◌, drop}
use Rattle.texts.specs.Numerals.{number_after, long_bound}
use Rattle.texts.proofs.numerals.read_long.Given as goal

abbrev pub invariant-loop-byte : goal.invariant-loop-byte
invariant-loop-byte l = (number_after long_bound l.number (drop l.byte-index l.word) ≡ number_after long_bound 0 l.word) × (l.number < long_bound)
