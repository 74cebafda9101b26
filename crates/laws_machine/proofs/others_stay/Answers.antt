-- The law `others_stay` (src/lib.rt): the calls of the other parties stay, in any machine.
use Rattle.laws_machine.proofs.Others as laws
use Rattle.laws_machine.proofs.others_stay.Goals as goal

pub returns : goal.returns
returns g c w turn = laws.others_stay w turn
