use Rattle.std.proofs.Common.{◌≡◌, ◌<◌}
use Rattle.lock_free.specs.Queues.Overflowing.{view, queue_of, consumer_view, consumer_queue}
use Rattle.lock_free.specs.Queues.Merges.{HasTaken}
use Rattle.uses_programs.proofs.relay_overflow.pop_some.Given as given

-- the consumer has taken the numbers in `numbers`, if the queue has room
abbrev pub invariant-loop : given.invariant-loop
invariant-loop g l =
    (consumer_queue l.consumer ≡ queue_of l.fn.pass)
    × (0 < (queue_of l.fn.pass).capacity → HasTaken l.numbers.items (view l.fn.pass) (consumer_view l.consumer))
