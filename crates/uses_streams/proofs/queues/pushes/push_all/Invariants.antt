-- The loop has pushed the first `count` values.
use Rattle.std.proofs.Common.{◌*◌, take}
use Rattle.history.specs.Steps.{TakesAtMost}
use Rattle.lock_free_queues.specs.Queues.Relays.{Sending}
use Rattle.lock_free_queues.specs.Queues.Rings.{producer_view}
use Rattle.uses_streams.specs.Tries.{WerePushed}
use Rattle.uses_streams.proofs.queues.pushes.push_all.Given as given

-- The first `count` values were sent, each pushed, with the steps of so many pushes at most.
abbrev pub invariant-loop-count : given.invariant-loop-count
invariant-loop-count g l = record {
  sent : Sending g.E.BoundedKind.named l.fn.producer (take l.count l.values) l.producer;
  pushed : WerePushed g.E.BoundedKind.named (take l.count l.values) (producer_view l.fn.producer) (producer_view l.producer);
  steps : TakesAtMost (l.count * g.E.BoundedKind.most_steps) (producer_view l.fn.producer) (producer_view l.producer);
}
