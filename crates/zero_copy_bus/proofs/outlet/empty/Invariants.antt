use Rattle.std.proofs.Common.{◌≡◌, ◌<◌, ℕ, List}
use Rattle.history.specs.History.{IsBeginning}
use Rattle.lock_free_queues.specs.Queues.Overflowing.{consumer_queue, consumer_view}
use Rattle.zero_copy_bus.specs.Words.{TakesOn}
use Rattle.zero_copy_bus.proofs.outlet.empty.Given as given

-- In this order: the queue is the same; its history goes on; the guard has taken the words that were popped.
abbrev pub invariant-loop : given.invariant-loop
invariant-loop g l =
    (consumer_queue l.receives ≡ consumer_queue l.fn.receives)
    × IsBeginning (consumer_view l.fn.receives).seen (consumer_view l.receives).seen
    × (0 < (consumer_queue l.fn.receives).capacity → (words : List ℕ) × TakesOn words (consumer_view l.fn.receives) (consumer_view l.receives))
