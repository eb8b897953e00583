-- The three ways of a write: no room for the rows, none for the state below, or both are written.
use Rattle.std.proofs.Common.{rules}
use Rattle.service.proofs.Rows.{length-rows, rows_short, below_short, both_written, both_within}
use Rattle.service.proofs.sessions.SessionsService.write.Goals as goal

pub returns-then-out-lt-ROWS_BYTES : goal.returns-then-out-lt-ROWS_BYTES
returns-then-out-lt-ROWS_BYTES g c =
    let self = c.args.self.now in
    rows_short g.S.Service.written self.kept (g.S.Service.state self.below) self.full c.args.out.now c.if-out-lt-ROWS_BYTES.true

pub returns-in_err-below : goal.returns-in_err-below
returns-in_err-below g c =
    let self = c.args.self.now in
    let short = below_short g.S.Service.written self.kept (g.S.Service.state self.below) self.full c.args.out.now c.write.new.out c.if-out-lt-ROWS_BYTES.false c.in_err-below.ensures in
    rw c.from_residual.ensures short

pub overflow_add-result : goal.overflow_add-result
overflow_add-result g c =
    let self = c.args.self.now in
    let rows = length-rows self.kept self.full in
    let within = both_within g.S.Service.written self.kept (g.S.Service.state self.below) self.full c.args.out.now c.write.new.out c.in_ok-below.below c.if-out-lt-ROWS_BYTES.false c.in_ok-below.ensures in
    search rules

pub returns : goal.returns
returns g c =
    let self = c.args.self.now in
    let both = both_written g.S.Service.written self.kept (g.S.Service.state self.below) self.full c.args.out.now c.write.new.out c.in_ok-below.below c.new-writer.result c.if-out-lt-ROWS_BYTES.false c.in_ok-below.ensures c.new-writer.ensures.position (search rules) in
    search rules
