-- The ints and the hypers fill the head.
use Rattle.std.proofs.Common.{rules}
use Rattle.xdr.proofs.Writing.{room_behind}
use Rattle.counter.specs.Statements.{stated}
use Rattle.counter.proofs.Heads.{head_written, statements_apart}
use Rattle.counter.proofs.statements.Statement.head.Goals as goal

pub put_rows-requires-2 : goal.put_rows-requires-2
put_rows-requires-2 c = room_behind c.new-writer.result _ _ 16 (search rules) c.put_rows.ensures

pub returns : goal.returns
returns c =
    record {
      value = let filled = head_written (stated c.args.self) c.new-writer.result c.new-writer.ensures.position (search rules) in search rules;
      apart = statements_apart;
    }
