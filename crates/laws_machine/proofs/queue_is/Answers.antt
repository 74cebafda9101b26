-- `queue_is` (src/lib.rt): its return meets what it ensures.
use Rattle.laws_machine.proofs.Queue as laws
use Rattle.laws_machine.proofs.queue_is.Goals as goal

pub returns : goal.returns
returns g c t is r = laws.queue_is t is r
