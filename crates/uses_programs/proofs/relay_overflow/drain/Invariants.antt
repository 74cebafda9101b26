use Rattle.std.proofs.Common.{◌≡◌, ◌<◌, ℕ, List, ◌++◌}
use Rattle.lock_free.specs.Queues.Overflowing.{consumer_view, consumer_queue}
use Rattle.lock_free.specs.Queues.Merges.{HasTaken}
use Rattle.uses_programs.proofs.relay_overflow.drain.Given as given

-- In this order: the queue is the same; the numbers that were taken; they stand last; and they are what the consumer took
-- out, where the queue has room at all. The second part is a value and not a fact, so it is no record.
abbrev pub invariant-loop : given.invariant-loop
invariant-loop g l =
    (consumer_queue l.consumer ≡ consumer_queue l.fn.consumer)
    × (more : List ℕ)
    × (l.numbers.items ≡ l.fn.numbers.items ++ more)
    × (0 < (consumer_queue l.fn.consumer).capacity → HasTaken more (consumer_view l.fn.consumer) (consumer_view l.consumer))
