-- The bytes of each place are written behind the ones before it, within the buffer.
use Rattle.std.proofs.Common.{sym, ap, subst, length, ◌∙◌}
use Rattle.xdr.specs.Layout.{int}
use Rattle.xdr.specs.Writing.{Room, wrote}
use Rattle.message.specs.Encoding.{encode_view_change}
use Rattle.drafts.specs.Says.{placed, bytes_at}
use Rattle.drafts.proofs.Pieces.{room_for_next, wrote_next, wrote_all}
use Rattle.drafts.proofs.Placed.{placed_counted_bytes}
use Rattle.drafts.proofs.changes.put_changes.Goals as goal

pub put-requires : goal.put-requires
put-requires c =
    let places = c.args.changes.now in
    let head = int (length (placed places)) in
    let room = subst (λ bytes. Room c.args.writer.now (length bytes)) (sym (placed_counted_bytes encode_view_change places)) c.requires.room in
    rw (c.loop-place.invariant, c.bytes_at.ensures.value) (room_for_next (bytes_at encode_view_change) places c.loop-place.place-index c.place-item.result c.loop-place-test.true c.place-item.is c.args.writer.now head room)

pub loop-place-preserved : goal.loop-place-preserved
loop-place-preserved c =
    let places = c.args.changes.now in
    let head = int (length (placed places)) in
    let room = subst (λ bytes. Room c.args.writer.now (length bytes)) (sym (placed_counted_bytes encode_view_change places)) c.requires.room in
    rw (c.put.ensures, c.loop-place.invariant, c.bytes_at.ensures.value) (wrote_next (bytes_at encode_view_change) places c.loop-place.place-index c.place-item.result c.loop-place-test.true c.place-item.is c.args.writer.now head room)

pub returns : goal.returns
returns c =
    let places = c.args.changes.now in
    let head = int (length (placed places)) in
    c.loop-place.invariant ∙ wrote_all (bytes_at encode_view_change) c.args.writer.now head places c.loop-place.place-index c.loop-place-test.false ∙ ap (λ bytes. wrote c.args.writer.now bytes) (placed_counted_bytes encode_view_change places)
