-- The law `emptied_is_all` (src/laws.rt): where a pop with the whole share finds nothing, all that was
-- published has been taken out, so the two lists are equal.
use Rattle.lock_free_queues.proofs.Queues.Whole.{all_taken}
use Rattle.lock_free_queues.proofs.laws.emptied_is_all.Goals as goal

pub returns : goal.returns
returns g c code kind capacity old new all before goes history popping = all_taken code kind capacity all before goes history popping
