-- The law `histories_are_sound` (src/laws.rt): pops take out what was published, in order, and no more waits than the capacity.
use Rattle.lock_free_queues.proofs.Queues.Promised.{sound}
use Rattle.lock_free_queues.proofs.laws.histories_are_sound.Goals as goal

pub returns : goal.returns
returns g c code kind capacity v b h = sound code kind capacity v b h
