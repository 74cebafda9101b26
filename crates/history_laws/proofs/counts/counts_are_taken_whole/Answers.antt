-- The law `counts_are_taken_whole` (src/counts.rt): what a reset takes out of a place is all that stands there at that moment, less than
-- 2^64.
use Rattle.history_laws.proofs.CountsSums.{taken_whole}
use Rattle.history_laws.proofs.counts.counts_are_taken_whole.Goals as goal

pub returns : goal.returns
returns g c code capacity events h = taken_whole code capacity events h
