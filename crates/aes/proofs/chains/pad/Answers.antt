-- The bytes over zeros, with the bit 1 behind them.
use Rattle.std.proofs.Common.{◌≡◌, ℕ, suc, ◌-◌, length, replicate, refl, arith}
use Rattle.std.proofs.lemmas.List.{drop-replicate, set_at}
use Rattle.aes.specs.Cmac.{padding}
use Rattle.aes.proofs.chains.pad.Goals as goal

pub returns : goal.returns
unfolding padding
returns c =
    let b = c.args.bytes.now in
    let left : 16 - length b ≡ suc (15 - length b) = omega arith in
    rw (c.copy_from_slice.ensures.after, drop-replicate {X = ℕ} (length b) 16 0, left) (set_at b 0 (replicate (15 - length b) 0) 0x80 (length b) refl)
