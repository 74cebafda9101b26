-- The law `pops_succeed` (src/laws.rt): a pop succeeds where its pass had seen a value wait.
use Rattle.lock_free_queues.proofs.Queues.Passed.{pop_succeeds}
use Rattle.lock_free_queues.proofs.laws.pops_succeed.Goals as goal

pub returns : goal.returns
returns g c answer old new some empty =
    pop_succeeds old new answer some empty
