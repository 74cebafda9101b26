-- The law `bit_answers_are_right` (src/bits.rt): each answer is right, of every thread's call: a set finds its bit standing only where
-- it stood at a moment of the call, a reset of the next bit finds none only where each bit was clear at a moment of it, and a reset of
-- all clears what stood.
use Rattle.history_laws.proofs.BitsSums.{answers}
use Rattle.history_laws.proofs.bits.bit_answers_are_right.Goals as goal

pub returns : goal.returns
returns g c code capacity events h = answers code capacity events h
