-- The law `histories_are_linearizable` (src/laws.rt): a history of a queue is linearizable as its list: the calls of all passes, pushes
-- and pops.
use Rattle.lock_free_queues.proofs.Queues.Promised.{linearizable}
use Rattle.lock_free_queues.proofs.laws.histories_are_linearizable.Goals as goal

pub returns : goal.returns
returns g c code kind capacity v h = linearizable code kind capacity v h
