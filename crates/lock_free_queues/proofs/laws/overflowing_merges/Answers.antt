-- The law `overflowing_merges` (src/laws.rt): no number that is pushed into an overflowing queue is lost; if one half of a first pass
-- pushed these numbers and got some back, the other half popped some, and who has joined both pops the rest, then each number was popped
-- or handed back, once, and both lists stand in the order of the pushes.
use Rattle.lock_free_queues.proofs.Queues.Merging.{overflowed}
use Rattle.lock_free_queues.proofs.laws.overflowing_merges.Goals as goal

pub returns : goal.returns
returns c capacity role all back came popped first left right mine theirs joined taking last fits opens cut s r h none goes acquired drain =
    overflowed capacity role all back came popped first left right mine theirs joined taking last fits opens cut s r h none goes acquired drain
