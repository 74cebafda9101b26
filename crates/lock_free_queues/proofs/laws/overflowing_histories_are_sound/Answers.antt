-- The law `overflowing_histories_are_sound` (src/laws.rt): each value that leaves an overflowing queue, by a push or by a pop, is the
-- oldest that waits; at most one more than the capacity waits, while a push is under way; all else is as in `histories_are_sound`.
use Rattle.lock_free_queues.proofs.Queues.Promised.{over_sound}
use Rattle.lock_free_queues.proofs.laws.overflowing_histories_are_sound.Goals as goal

pub returns : goal.returns
returns g c code capacity v h = over_sound code capacity v h
