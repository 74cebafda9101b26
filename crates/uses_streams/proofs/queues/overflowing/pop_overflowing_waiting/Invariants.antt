-- each pop so far found none, if the queue has a capacity
use Rattle.std.proofs.Common.{◌≡◌, ◌<◌, ℕ}
use Rattle.lock_free_queues.specs.Queues.Contracts.{PopFoundNone}
use Rattle.lock_free_queues.specs.Queues.Overflowing.{consumer_queue, consumer_view}
use Rattle.uses_streams.specs.Tries.{Times}
use Rattle.uses_streams.proofs.queues.overflowing.pop_overflowing_waiting.Given as given

-- The queue and the share are the same. If the queue has a capacity, each pop so far found none.
abbrev pub invariant-loop : given.invariant-loop
invariant-loop g l = record {
  queue : consumer_queue l.consumer ≡ consumer_queue l.fn.consumer;
  share : (consumer_view l.consumer).share ≡ (consumer_view l.fn.consumer).share;
  none : 0 < (consumer_queue l.fn.consumer).capacity
      → (n : ℕ) × Times n PopFoundNone (consumer_view l.fn.consumer) (consumer_view l.consumer);
}
