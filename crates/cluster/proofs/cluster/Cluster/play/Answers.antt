use Rattle.protocol.specs.Meanings.{meaning}
use Rattle.protocol.proofs.Runs.{group_agrees}
use Rattle.sha256.specs.Sha256.{sha256}
use Rattle.cluster.specs.Members.{places_of}
use Rattle.sha256.proofs.Digests.{sha256_length}
use Rattle.cluster.proofs.Promises.{follows, goes_further, same_others, places_agree}
use Rattle.cluster.proofs.cluster.Cluster.play.Goals as goal

pub returns-clause-follows : goal.returns-clause-follows
returns-clause-follows g c =
    follows (meaning g.S.Service.next g.S.Service.reply g.S.Service.written sha256)
    (places_of g.C.Checker.size g.C.Counter.seat g.C.Checker.rule g.C.Counter.values g.S.Service.state c.args.self.now)
    c.args.entry (c.args.scratch.now, c.args.out.now) (c.act.new.scratch, c.act.new.out) c.act.result
    (places_of g.C.Checker.size g.C.Counter.seat g.C.Checker.rule g.C.Counter.values g.S.Service.state c.act.new.self)
    c.act.ensures

pub returns-clause-goes_on : goal.returns-clause-goes_on
returns-clause-goes_on g c =
    goes_further (meaning g.S.Service.next g.S.Service.reply g.S.Service.written sha256)
    (places_of g.C.Checker.size g.C.Counter.seat g.C.Checker.rule g.C.Counter.values g.S.Service.state c.args.self.now)
    c.args.entry (c.args.scratch.now, c.args.out.now) (c.act.new.scratch, c.act.new.out) c.act.result
    (places_of g.C.Checker.size g.C.Counter.seat g.C.Checker.rule g.C.Counter.values g.S.Service.state c.act.new.self)
    c.act.ensures c.entry_fits.ensures

pub returns-clause-same_others : goal.returns-clause-same_others
returns-clause-same_others g c =
    same_others (meaning g.S.Service.next g.S.Service.reply g.S.Service.written sha256)
    (places_of g.C.Checker.size g.C.Counter.seat g.C.Checker.rule g.C.Counter.values g.S.Service.state c.args.self.now)
    c.args.entry (c.args.scratch.now, c.args.out.now) (c.act.new.scratch, c.act.new.out) c.act.result
    (places_of g.C.Checker.size g.C.Counter.seat g.C.Checker.rule g.C.Counter.values g.S.Service.state c.act.new.self)
    c.act.ensures

pub returns-clause-agreement : goal.returns-clause-agreement
returns-clause-agreement g c =
    places_agree (meaning g.S.Service.next g.S.Service.reply g.S.Service.written sha256) sha256_length
    (places_of g.C.Checker.size g.C.Counter.seat g.C.Checker.rule g.C.Counter.values g.S.Service.state c.act.new.self)

pub returns-clause-group : goal.returns-clause-group
returns-clause-group g c = group_agrees (meaning g.S.Service.next g.S.Service.reply g.S.Service.written sha256)
