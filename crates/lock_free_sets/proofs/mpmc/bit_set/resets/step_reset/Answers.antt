-- `step_reset` (src/mpmc/bit_set/resets.rt): its call of `step` meets the requirement `rule`.
use Rattle.lock_free_sets.proofs.Bits.Resetting.{next_keeps}
use Rattle.lock_free_sets.proofs.mpmc.bit_set.resets.step_reset.Goals as goal

-- the step keeps the rule of the table (requirement `rule`)
pub step-requires-clause-rule : goal.step-requires-clause-rule
step-requires-clause-rule c = next_keeps
