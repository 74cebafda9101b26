-- The law `not_lock_free_below` (src/theorems.rt; clauses `index_queue`, `overflow`, `queue`, `value`,
-- `bits`, `counts`, `robust` and `loan`): no bound that makes a kind lock-free is below the number that its
-- clause names, at the parties and the capacity given there and with values of one word, since there is a run
-- of that many steps in which no call ends.
use Rattle.laws_loan.proofs.WorkedLockFree as worked_loan
use Rattle.model.proofs.WorkedLockFree as worked
use Rattle.machine.proofs.Rounds as rounds
use Rattle.machine.proofs.theorems.not_lock_free_below.Goals as goal

pub returns-clause-index_queue : goal.returns-clause-index_queue
returns-clause-index_queue c bound few free = worked.index_queue bound few free

pub returns-clause-overflow : goal.returns-clause-overflow
returns-clause-overflow c bound few free = worked.overflow bound few free

pub returns-clause-queue : goal.returns-clause-queue
returns-clause-queue c bound few free = worked.queue bound few free

pub returns-clause-value : goal.returns-clause-value
returns-clause-value c bound few free = worked.value bound few free

pub returns-clause-bits : goal.returns-clause-bits
returns-clause-bits c bound few free = worked.bit_set bound few free

pub returns-clause-counts : goal.returns-clause-counts
returns-clause-counts c bound few free = worked.counts bound few free

pub returns-clause-robust : goal.returns-clause-robust
returns-clause-robust c bound few free = rounds.robust bound few free

pub returns-clause-loan : goal.returns-clause-loan
returns-clause-loan c bound few free = worked_loan.channel bound few free
