-- The law `opens` (src/laws.rt): of a new container the numbers are counted.
use Rattle.plain.proofs.States.Showing as laws
use Rattle.plain.proofs.laws.opens.Goals as goal

pub returns : goal.returns
returns g c size container = laws.opens size container
