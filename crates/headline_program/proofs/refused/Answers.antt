-- The law `refused` (src/lib.rt): the output where memory is refused to turns is that where it is refused to none, or it has the line
-- `refused NoMemory`, and what stands before that line is a beginning of the latter; so an output without this line is that of a run to
-- which no memory was refused.
use Rattle.headline_program.proofs.Alike.{alike}
use Rattle.headline_program.proofs.refused.Goals as goal

pub returns : goal.returns
returns g c input refusals = alike input refusals
