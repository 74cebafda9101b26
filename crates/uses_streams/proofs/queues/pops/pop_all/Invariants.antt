-- The loop has popped `count` values, which are the first ones of the slice now.
use Rattle.std.proofs.Common.{◌≡◌, ◌*◌, take, drop}
use Rattle.history.specs.Steps.{TakesAtMost}
use Rattle.lock_free_queues.specs.Queues.Relays.{Receiving}
use Rattle.lock_free_queues.specs.Queues.Rings.{consumer_view}
use Rattle.uses_streams.specs.Tries.{WerePopped}
use Rattle.uses_streams.proofs.queues.pops.pop_all.Given as given

-- The first `count` values of the slice were popped, the rest of it is as it was, and the steps
-- are those of so many pops at most.
abbrev pub invariant-loop-count : given.invariant-loop-count
invariant-loop-count g l = record {
  received : Receiving g.E.BoundedKind.named l.fn.consumer (take l.count l.values) l.consumer;
  rest : drop l.count l.values ≡ drop l.count l.fn.values;
  popped : WerePopped g.E.BoundedKind.named (take l.count l.values) (consumer_view l.fn.consumer) (consumer_view l.consumer);
  steps : TakesAtMost (l.count * g.E.BoundedKind.most_steps) (consumer_view l.fn.consumer) (consumer_view l.consumer);
}
