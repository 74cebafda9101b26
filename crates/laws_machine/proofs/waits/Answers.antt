-- The law `waits` (src/lib.rt): a call of a container waits for a decision just where it asks about a value.
use Rattle.laws_machine.proofs.Waiting as laws
use Rattle.laws_machine.proofs.waits.Goals as goal

pub returns : goal.returns
returns g c t is r = laws.waits t is r
