-- The steps of the last round, one after the other.
use Rattle.aes.proofs.rounds.last_round.Goals as goal

pub returns : goal.returns
returns c = cc
