-- The table is the S-box at every byte.
use Rattle.std.proofs.Common.{get_or, ap, ◌∙◌, arith}
use Rattle.aes.specs.declared.bytes.TheConstants.{SBOX}
use Rattle.aes.proofs.SboxTable.{table_is_sbox}
use Rattle.aes.proofs.bytes.sub.Goals as goal

pub returns : goal.returns
returns c = ap (λ k. get_or SBOX k 0) c.from.ensures ∙ table_is_sbox c.args.b (omega arith)
