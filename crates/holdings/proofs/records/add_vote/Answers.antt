-- One entry more has the vote.
use Rattle.std.proofs.Common.{rules}
use Rattle.std.proofs.lemmas.List.Edits.{map_over_more}
use Rattle.std.proofs.lemmas.List.{take_all, drop_all}
use Rattle.holdings.specs.Kept.{voted}
use Rattle.holdings.proofs.records.add_vote.Goals as goal

pub loop-entry-preserved : goal.loop-entry-preserved
loop-entry-preserved c = search (rules, map_over_more (voted c.args.seat c.args.order.0))

pub returns : goal.returns
returns c = search (rules, take_all, drop_all)
