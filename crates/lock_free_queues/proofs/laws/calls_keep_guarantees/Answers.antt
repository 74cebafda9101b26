-- The law `calls_keep_guarantees` (src/laws.rt): each call is wait-free, or obstruction-free, as docs/FIELD.md says; in the machine that
-- has the history no call has taken more steps than that, whatever the number of turns; how many a thread's call takes is what its
-- clause `steps` says, with the same numbers.
use Rattle.lock_free_queues.proofs.Queues.Promised.{guarantees}
use Rattle.lock_free_queues.proofs.laws.calls_keep_guarantees.Goals as goal

pub returns : goal.returns
returns g c code kind capacity v h = guarantees code kind capacity v h
