-- The S-box at each byte.
use Rattle.std.proofs.Common.{arith, rules}
use Rattle.aes.specs.Field.{sbox}
use Rattle.aes.specs.Cipher.{sub_bytes}
use Rattle.streams.proofs.Arrays.{map_by}
use Rattle.aes.proofs.rounds.sub_bytes.Goals as goal

pub returns : goal.returns
unfolding sub_bytes
returns c = map_by _ sbox 0 0 _ _ _ 16 (λ p x y q k. search rules) (omega arith) c.map.ensures.items
