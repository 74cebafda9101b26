-- `counts` (src/laws.rt): its return meets what it ensures (`Keeps`).
use Rattle.plain.proofs.States.Changing as laws
use Rattle.plain.proofs.laws.counts.Goals as goal

pub returns : goal.returns
returns g c s = laws.counts s
