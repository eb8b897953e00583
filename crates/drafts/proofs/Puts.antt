-- One write after another.
use Rattle.std.proofs.Common.{◌≡◌, List, ℕ, ◌+◌, ◌*◌, length, arith}
use Rattle.std.specs.List.{flat_map}
use Rattle.terms.specs.Numbers.{int_bytes}
use Rattle.xdr.specs.Layout.{int, counted}
use Rattle.xdr.specs.Writing.{Room, wrote}
use Rattle.xdr.specs.declared.writer.Writer.{Writer}
use Rattle.xdr.proofs.Listing.{length-joined}
use Rattle.xdr.proofs.Pasting.{length-pasted}
use Rattle.xdr.proofs.Widths.{every}
use Rattle.xdr.proofs.Writing.{wrote_more}

-- a count, and the rows behind it
pub list_written : {X : Type 0} (layout : X → List ℕ) (width : ℕ) → ((x : X) → length (layout x) ≡ width) → (w : Writer) (xs : List X) → Room w (int_bytes + width * length xs) → wrote (wrote w (int (length xs))) (flat_map layout xs) ≡ wrote w (counted layout xs)
unfolding counted
list_written layout width wide w xs room =
    let rows = length-joined layout width xs (every _ wide xs) in
    wrote_more w (int (length xs)) (flat_map layout xs) (omega (arith, rows, room))

-- for a few writes
pub ruleset puts = (wrote_more, length-pasted)
