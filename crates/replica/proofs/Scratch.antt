-- A state that was written into a scratch stands at its front.
use Rattle.std.proofs.Common.{◌≡◌, ℕ, List, length, take, drop, Some, refl, arith}
use Rattle.std.proofs.lemmas.List.{take_at}
use Rattle.service.specs.Writing.{written_into}
use Rattle.xdr.specs.Layout.{pasted}
use Rattle.xdr.proofs.Pasting.{pasted_front}

pub state_at_front : (bytes scratch after : List ℕ) (n : ℕ) → (Some n, after) ≡ written_into bytes scratch → take n after ≡ bytes
state_at_front bytes scratch after n e =
    let whole : (n ≡ length bytes) × (after ≡ pasted scratch 0 bytes) = grind arith in
    rw (whole.1, whole.0, pasted_front scratch bytes) (take_at bytes (drop (length bytes) scratch) (length bytes) refl)
