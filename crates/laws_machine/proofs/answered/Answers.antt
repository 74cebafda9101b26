-- The law `answered` (src/lib.rt; clauses `robust` and `container`): a call of the robust set, or of a container, puts no question again
-- once it has an answer.
use Rattle.laws_machine.proofs.Answering as laws
use Rattle.laws_machine.proofs.Waiting as waiting
use Rattle.laws_machine.proofs.answered.Goals as goal

pub returns-clause-robust : goal.returns-clause-robust
returns-clause-robust g c t turn is r free = laws.answered t is r turn free

pub returns-clause-container : goal.returns-clause-container
returns-clause-container g c t turn is r free = waiting.answered t is r turn free
