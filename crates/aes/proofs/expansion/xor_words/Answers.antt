-- The sums of four bytes and four bytes.
use Rattle.std.proofs.Common.{arith}
use Rattle.aes.proofs.Sums.{xors_places}
use Rattle.aes.proofs.expansion.xor_words.Goals as goal

pub returns : goal.returns
returns c = xors_places c.args.a c.args.b 4 (omega arith) (omega arith)
