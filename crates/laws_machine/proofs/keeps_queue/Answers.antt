-- The law `keeps_queue` (src/lib.rt): a turn leaves the submission queue of a loan channel as long as it was.
use Rattle.laws_machine.proofs.Queue as laws
use Rattle.laws_machine.proofs.keeps_queue.Goals as goal

pub returns : goal.returns
returns g c w turn = laws.keeps_queue w turn
