-- The law `queue_of_values_is_the_code` (src/lib.rt; clauses `code`, `pushes`, `pops` and `machine`): the page of the queue of values is
-- about the code, and about machines, from where parties 0 and 1 have the roles.
use Rattle.pages.proofs.ValuesQueue as queue
use Rattle.pages.proofs.queue_of_values_is_the_code.Goals as goal

pub returns-clause-code : goal.returns-clause-code
returns-clause-code g c = queue.code

pub returns-clause-pushes : goal.returns-clause-pushes
returns-clause-pushes g c = queue.by_pushes

pub returns-clause-pops : goal.returns-clause-pops
returns-clause-pops g c = queue.by_pops

pub returns-clause-machine : goal.returns-clause-machine
returns-clause-machine g c = queue.runs
