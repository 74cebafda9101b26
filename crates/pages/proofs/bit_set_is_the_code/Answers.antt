-- The law `bit_set_is_the_code` (src/lib.rt; clauses `code`, `hands_out`, `sets`, `nexts`, `alls` and `machine`): the page of the bit
-- set is about the code: each stage asks for what the code's function asks for, and goes on as it does, and a reset of all hands out
-- what the machine's events say.
use Rattle.pages.proofs.SetsAreTheCode as sets
use Rattle.pages.proofs.BitSetRuns.{bits_runs}
use Rattle.pages.proofs.bit_set_is_the_code.Goals as goal

pub returns-clause-code : goal.returns-clause-code
returns-clause-code c = sets.bits_code

pub returns-clause-hands_out : goal.returns-clause-hands_out
returns-clause-hands_out c = sets.bits_hands_out

pub returns-clause-sets : goal.returns-clause-sets
returns-clause-sets c = sets.bits_sets

pub returns-clause-nexts : goal.returns-clause-nexts
returns-clause-nexts c = sets.bits_nexts

pub returns-clause-alls : goal.returns-clause-alls
returns-clause-alls c = sets.bits_alls

pub returns-clause-machine : goal.returns-clause-machine
returns-clause-machine c = bits_runs
