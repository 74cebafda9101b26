-- The law `overflowing_queue_is_the_code` (src/lib.rt; clauses `code`, `machine`, `pushes` and `pops`): the page of the overflowing
-- queue is about the code, and about machines, from where parties 0 and 1 have the roles.
use Rattle.pages.proofs.Overflowing as queue
use Rattle.pages.proofs.overflowing_queue_is_the_code.Goals as goal

pub returns-clause-code : goal.returns-clause-code
returns-clause-code c = queue.code

pub returns-clause-machine : goal.returns-clause-machine
returns-clause-machine c = queue.runs

pub returns-clause-pushes : goal.returns-clause-pushes
returns-clause-pushes c = queue.by_pushes

pub returns-clause-pops : goal.returns-clause-pops
returns-clause-pops c = queue.by_pops
