-- each pop so far found the queue empty
use Rattle.std.proofs.Common.{◌*◌, []}
use Rattle.history.specs.Steps.{TakesAtMost}
use Rattle.lock_free_queues.specs.Queues.Relays.{Receiving}
use Rattle.lock_free_queues.specs.Queues.Rings.{consumer_view}
use Rattle.uses_streams.specs.Tries.{WereEmpty}
use Rattle.uses_streams.proofs.queues.pops.pop_within.Given as given

-- Nothing was received, each pop so far found the queue empty, and the steps are those of so many
-- pops at most.
abbrev pub invariant-loop-empty : given.invariant-loop-empty
invariant-loop-empty g l = record {
  received : Receiving g.E.BoundedKind.named l.fn.consumer [] l.consumer;
  empty : WereEmpty l._empty (consumer_view l.fn.consumer) (consumer_view l.consumer);
  steps : TakesAtMost (l._empty * g.E.BoundedKind.most_steps) (consumer_view l.fn.consumer) (consumer_view l.consumer);
}
