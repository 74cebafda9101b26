-- The law `any_number` (src/laws.rt): of any number of passes: where a whole share is split n times, and all that was split off is
-- joined again, the last first, it is whole.
use Rattle.threaded.proofs.Fractions as fractions
use Rattle.threaded.proofs.laws.any_number.Goals as goal

pub returns : goal.returns
returns c n s = fractions.any_number n s
