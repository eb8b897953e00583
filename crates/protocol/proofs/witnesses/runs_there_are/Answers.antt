-- Each run is written out.
use Rattle.protocol.proofs.WrittenRuns.{requests_are_carried_out, low_moves, views_change, suspicions_merge}
use Rattle.protocol.proofs.witnesses.runs_there_are.Goals as goal

pub returns : goal.returns
returns c = record { carried_out = requests_are_carried_out; low = low_moves; view = views_change; merged = suspicions_merge }
