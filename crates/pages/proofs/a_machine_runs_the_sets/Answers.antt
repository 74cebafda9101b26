-- The law `a_machine_runs_the_sets` (src/lib.rt; clauses `bits`, `counts` and `unique`): what a `Machine` of a bit set, of a counting
-- bit set or of a unique index set has taken is a run of its page: if it took these turns from its making on, its words, the invocations
-- and the responses are those of the page's machine over the same turns, where the response of a reset of all says what its steps have
-- handed out.
use Rattle.pages.proofs.BitSetRuns.{bits_is_run}
use Rattle.pages.proofs.CountingBitSetRuns.{counts_is_run}
use Rattle.pages.proofs.UniqueRuns.{is_run}
use Rattle.pages.proofs.a_machine_runs_the_sets.Goals as goal

pub returns-clause-bits : goal.returns-clause-bits
returns-clause-bits c = bits_is_run _

pub returns-clause-counts : goal.returns-clause-counts
returns-clause-counts c = counts_is_run _

pub returns-clause-unique : goal.returns-clause-unique
returns-clause-unique c = is_run _
