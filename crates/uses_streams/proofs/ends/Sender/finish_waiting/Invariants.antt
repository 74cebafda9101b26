-- the tries before pushed no end
use Rattle.std.proofs.Common.{◌≡◌}
use Rattle.lock_free_queues.specs.Queues.Rings.{producer_queue, producer_view}
use Rattle.uses_streams.specs.Ends.{sender_queue, sender_view}
use Rattle.uses_streams.specs.Streams.{OnlyPushes, pushed_by}
use Rattle.uses_streams.proofs.ends.Sender.finish_waiting.Given as given

abbrev pub invariant-loop : given.invariant-loop
invariant-loop g l =
    (producer_queue l.producer ≡ sender_queue l.fn.self) × OnlyPushes (producer_view l.producer)
    × (pushed_by (producer_view l.producer) ≡ pushed_by (sender_view l.fn.self))
