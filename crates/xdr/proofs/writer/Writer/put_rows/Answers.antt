-- Each row is written behind the ones before it, within the buffer.
use Rattle.std.proofs.Common.{sym}
use Rattle.xdr.proofs.Writing.{wrote_none, room_for_next, wrote_next}
use Rattle.xdr.proofs.writer.Writer.put_rows.Goals as goal

pub loop-row-init : goal.loop-row-init
loop-row-init g c = sym (wrote_none c.args.self.now)

pub put_row-requires : goal.put_row-requires
put_row-requires g c = rw c.loop-row.invariant (room_for_next g.T.Row.layout g.T.Row.width g.met.T.Row.wide c.args.self.now c.args.rows.now c.requires c.loop-row.row-index c.loop-row-test.true)

pub loop-row-preserved : goal.loop-row-preserved
loop-row-preserved g c =
    rw (c.put_row.ensures, c.loop-row.invariant) (wrote_next g.T.Row.layout g.T.Row.width g.met.T.Row.wide c.args.self.now c.args.rows.now c.requires c.loop-row.row-index c.loop-row-test.true c.row-item.result c.row-item.is)
