-- each push so far was refused
use Rattle.std.proofs.Common.{◌*◌, []}
use Rattle.history.specs.Steps.{TakesAtMost}
use Rattle.lock_free_queues.specs.Queues.Relays.{Sending}
use Rattle.lock_free_queues.specs.Queues.Rings.{producer_queue, producer_view}
use Rattle.uses_streams.specs.Tries.{WereRefused}
use Rattle.uses_streams.proofs.queues.pushes.push_within.Given as given

-- Nothing was sent, and the tries so far were refused, with at most the steps of so many pushes.
abbrev pub invariant-loop-refused : given.invariant-loop-refused
invariant-loop-refused g l = record {
  sent : Sending g.E.BoundedKind.named l.fn.producer [] l.producer;
  full : WereRefused l._refused (producer_queue l.fn.producer).capacity (g.E.BoundedKind.named l.value) (producer_view l.fn.producer)
      (producer_view l.producer);
  steps : TakesAtMost (l._refused * g.E.BoundedKind.most_steps) (producer_view l.fn.producer) (producer_view l.producer);
}
