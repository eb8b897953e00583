-- The length of the written state, from that of the state below.
use Rattle.std.proofs.Common.{arith}
use Rattle.service.proofs.Rows.{length-written}
use Rattle.service.proofs.sessions.SessionsService.written_len.Goals as goal

pub returns : goal.returns
returns g c =
    let self = c.args.self.now in
    let all = length-written g.S.Service.written self.kept (g.S.Service.state self.below) self.full in
    omega (arith, c.saturating_add.ensures, c.written_len.ensures)
