-- The steps of a round, one after the other.
use Rattle.aes.proofs.rounds.round.Goals as goal

pub returns : goal.returns
returns c = cc
