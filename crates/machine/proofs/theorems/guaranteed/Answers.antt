-- The law `guaranteed` (src/theorems.rt): each entry of the table `guarantee_of`, which says whether a call
-- is wait-free or obstruction-free and with which constants, follows from the bound of steps that the kind
-- promises for the call.
use Rattle.model.proofs.Progress as laws
use Rattle.machine.proofs.theorems.guaranteed.Goals as goal

pub returns : goal.returns
returns g c kind capacity size start = laws.guaranteed kind capacity size start
