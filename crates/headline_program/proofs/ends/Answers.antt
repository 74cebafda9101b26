-- The law `ends` (src/lib.rt): refused memory changes nothing of how the program ends: well, or at the same malformed line for the same
-- cause.
use Rattle.headline_program.proofs.Alike.{ends as same_end}
use Rattle.headline_program.proofs.ends.Goals as goal

pub returns : goal.returns
returns g c input refusals = same_end input refusals
