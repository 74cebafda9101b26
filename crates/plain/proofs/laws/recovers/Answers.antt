-- `recovers` (src/laws.rt): its return meets what it ensures (`Keeps`).
use Rattle.plain.proofs.States.Changing as laws
use Rattle.plain.proofs.laws.recovers.Goals as goal

pub returns : goal.returns
returns g c s mode which may = laws.recovers s mode which may
