-- The front of whole blocks is as long as the blocks before the last.
use Rattle.std.proofs.Common.{◌≡◌, ℕ, ◌-◌, ◌*◌, ◌/◌, length, ap₂, ◌∙◌, arith}
use Rattle.std.specs.Simd.{first_chunks}
use Rattle.aes.proofs.Cuts.{chunks_of_take}
use Rattle.aes.proofs.chains.before_last.Goals as goal

pub returns-clause-front : goal.returns-clause-front
returns-clause-front c =
    let m = c.args.bytes.now in
    let n : ℕ = c.saturating_sub.result / 16 * 16 in
    let count : length c.split_at.result.0.now / 16 ≡ (length c.args.bytes.now - 1) / 16 = omega (arith, c.saturating_sub.ensures) in
    c.as_chunks.ensures.front ∙ ap₂ (first_chunks 16) count c.split_at.ensures.front
    ∙ chunks_of_take ((length m - 1) / 16) _ m (omega (arith, c.saturating_sub.ensures)) (omega (arith, c.saturating_sub.ensures))
