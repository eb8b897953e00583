-- What has been written after so many rows.
use Rattle.std.proofs.Common.{◌≡◌, take}
use Rattle.std.specs.List.{flat_map}
use Rattle.xdr.specs.Writing.{wrote}
use Rattle.xdr.proofs.writer.Writer.put_rows.Given as goal

abbrev pub invariant-loop-row : goal.invariant-loop-row
invariant-loop-row g l = l.self ≡ wrote l.initial.self (flat_map g.T.Row.layout (take l.row-index l.rows))
