use Rattle.std.proofs.Common.{rules}
use Rattle.protocol.specs.Meanings.{meaning}
use Rattle.sha256.specs.Sha256.{sha256}
use Rattle.cluster.proofs.Seats.{acted_one}
use Rattle.cluster.proofs.cluster.Cluster.act.Goals as goal

pub returns : goal.returns
returns g c =
    acted_one g.C.Checker.size g.C.Counter.seat g.C.Checker.rule g.C.Counter.values g.S.Service.state
    (meaning g.S.Service.next g.S.Service.reply g.S.Service.written sha256)
    c.args.self.now.members.items c.in-Some.member.now c.play.new.self c.args.entry (c.args.scratch.now, c.args.out.now) (c.play.new.scratch, c.play.new.out) c.play.result c.seat.result
    c.seat.ensures (search rules) (search rules) c.play.ensures
