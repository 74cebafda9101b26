-- `step_acquire` (src/mpmc/robust_unique_index_set/acquires.rt): its call of `step` meets the requirement `rule`.
use Rattle.lock_free_owners.proofs.Names.{one_word, acquire_keeps}
use Rattle.lock_free_owners.proofs.mpmc.robust_unique_index_set.acquires.step_acquire.Goals as goal

-- the step keeps the rule of the table (requirement `rule`)
pub step-requires-clause-rule : goal.step-requires-clause-rule
step-requires-clause-rule c = acquire_keeps one_word c.args.owner
