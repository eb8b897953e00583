use Rattle.std.proofs.Common.{rules, true, false, map, sym}
use Rattle.protocol.specs.Meanings.{meaning}
use Rattle.sha256.specs.Sha256.{sha256}
use Rattle.cluster.specs.Members.{place_of}
use Rattle.cluster.proofs.Making.{nothing_played}
use Rattle.cluster.proofs.Seats.{sits, made_of}
use Rattle.cluster.proofs.cluster.Cluster.new.Goals as goal

pub returns-then-not-all_sit-clause-outcome : goal.returns-then-not-all_sit-clause-outcome
returns-then-not-all_sit-clause-outcome g c =
    sym (made_of g.C.Checker.size g.C.Counter.seat g.C.Checker.rule g.C.Counter.values g.S.Service.state c.in_ok-group.group.seats c.args.members.items false
    (cc) (search rules) (search rules))

pub returns-clause-outcome : goal.returns-clause-outcome
returns-clause-outcome g c =
    sym (made_of g.C.Checker.size g.C.Counter.seat g.C.Checker.rule g.C.Counter.values g.S.Service.state c.in_ok-group.group.seats c.args.members.items true
    (cc) (search rules) (search rules))

pub returns-clause-begins : goal.returns-clause-begins
returns-clause-begins g c = λ rule start fresh.
    nothing_played (meaning g.S.Service.next g.S.Service.reply g.S.Service.written sha256) rule start
    (map (place_of g.C.Checker.size g.C.Counter.seat g.C.Checker.rule g.C.Counter.values g.S.Service.state) c.args.members.items)
    (sits g.C.Checker.size g.C.Counter.seat g.C.Checker.rule g.C.Counter.values g.S.Service.state c.in_ok-group.group.seats c.args.members.items true
    (cc) (search rules)) fresh
