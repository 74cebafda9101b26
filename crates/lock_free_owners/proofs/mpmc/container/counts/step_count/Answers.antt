-- `step_count` (src/mpmc/container/counts.rt): its call of `step` meets the requirement `rule`.
use Rattle.lock_free_owners.proofs.Names.{coding_by}
use Rattle.lock_free_owners.proofs.ContainerSet.Begins.{count_keeps}
use Rattle.lock_free_owners.proofs.mpmc.container.counts.step_count.Goals as goal

-- the step keeps the rule of the table (requirement `rule`)
pub step-requires-clause-rule : goal.step-requires-clause-rule
step-requires-clause-rule g c = count_keeps (coding_by g.T.Words) g.W.Counting.which
