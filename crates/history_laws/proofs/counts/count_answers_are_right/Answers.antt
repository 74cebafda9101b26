-- The law `count_answers_are_right` (src/counts.rt): each answer is right, of every thread's call: a set answers what stands at its
-- place, less than 2^64, and a reset of all takes something out of each place that counted as it began, unless that was counted 2^64
-- times in all.
use Rattle.history_laws.proofs.CountsSums.{answers}
use Rattle.history_laws.proofs.counts.count_answers_are_right.Goals as goal

pub returns : goal.returns
returns g c code capacity events h = answers code capacity events h
