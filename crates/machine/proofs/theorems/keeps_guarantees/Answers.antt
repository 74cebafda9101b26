-- The law `keeps_guarantees` (src/theorems.rt): in a run that keeps the promises of its kind, each party's
-- latest call has kept the guarantee that the table `guarantee_of` gives it.
use Rattle.model.proofs.Progress as laws
use Rattle.machine.proofs.theorems.keeps_guarantees.Goals as goal

pub returns : goal.returns
returns g c t kept = laws.keeps_guarantees t kept
