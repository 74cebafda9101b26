-- `step_count` (src/mpmc/robust_unique_index_set/counts.rt): its call of `step` meets the requirement `rule`.
use Rattle.lock_free_owners.proofs.Names.{one_word, count_keeps}
use Rattle.lock_free_owners.proofs.mpmc.robust_unique_index_set.counts.step_count.Goals as goal

-- the step keeps the rule of the table (requirement `rule`)
pub step-requires-clause-rule : goal.step-requires-clause-rule
step-requires-clause-rule c = count_keeps one_word
