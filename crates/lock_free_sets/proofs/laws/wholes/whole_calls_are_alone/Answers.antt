-- The law `whole_calls_are_alone` (src/laws/wholes.rt): a pass that has the whole share, and whose
-- calls have ended, makes each call alone. Nobody else changes a word during it, so it takes at most
-- the number of steps that its clause `steps` gives for a call alone.
use Rattle.lock_free_sets.proofs.Whole.Alone.{takes_most}
use Rattle.lock_free_sets.proofs.laws.wholes.whole_calls_are_alone.Goals as goal

pub returns : goal.returns
returns g c code kind capacity alone retry old new calls knows takes = takes_most old new calls alone retry knows takes
