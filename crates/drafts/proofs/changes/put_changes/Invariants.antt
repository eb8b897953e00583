-- The count, and the bytes of the first places.
use Rattle.std.proofs.Common.{◌≡◌, ◌++◌, length, take}
use Rattle.std.specs.List.{flat_map}
use Rattle.xdr.specs.Layout.{int}
use Rattle.xdr.specs.Writing.{wrote}
use Rattle.message.specs.Encoding.{encode_view_change}
use Rattle.drafts.specs.Says.{placed, bytes_at}
use Rattle.drafts.proofs.changes.put_changes.Given as goal

abbrev pub invariant-loop-place : goal.invariant-loop-place
invariant-loop-place l = l.writer ≡ wrote l.fn.writer (int (length (placed l.changes)) ++ flat_map (bytes_at encode_view_change) (take l.place-index l.changes))
