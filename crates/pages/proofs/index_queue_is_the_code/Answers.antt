-- The law `index_queue_is_the_code` (src/lib.rt; clauses `code`, `machine`, `pushes` and `pops`): the page is about the code: each stage
-- asks for what the code's function asks for, and goes on as it does; and it is about machines: from where parties 0 and 1 have the
-- roles, turn by turn, the words, the invocations and the responses are those of the model's machine.
use Rattle.pages.proofs.Queue as queue
use Rattle.pages.proofs.index_queue_is_the_code.Goals as goal

pub returns-clause-code : goal.returns-clause-code
returns-clause-code c = queue.code

pub returns-clause-machine : goal.returns-clause-machine
returns-clause-machine c = queue.runs

pub returns-clause-pushes : goal.returns-clause-pushes
returns-clause-pushes c = queue.pushes

pub returns-clause-pops : goal.returns-clause-pops
returns-clause-pops c = queue.pops
