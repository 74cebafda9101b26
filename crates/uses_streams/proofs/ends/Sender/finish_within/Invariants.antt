-- each push of the end so far was refused
use Rattle.std.proofs.Common.{◌≡◌, ◌+◌, ◌*◌}
use Rattle.history.specs.Steps.{TakesAtMost}
use Rattle.model.specs.declared.event.Item.TheVariants.{Value}
use Rattle.lock_free_queues.specs.Queues.Rings.{producer_queue, producer_view}
use Rattle.uses_streams.specs.declared.element.Element.TheVariants as elements
use Rattle.uses_streams.specs.Ends.{sender_queue, sender_view, sender_words}
use Rattle.uses_streams.specs.Streams.{OnlyPushes, pushed_by}
use Rattle.uses_streams.specs.Tries.{WereRefused}
use Rattle.uses_streams.proofs.ends.Sender.finish_within.Given as given

abbrev pub invariant-loop-refused : given.invariant-loop-refused
invariant-loop-refused g l = record {
  queue : producer_queue l.producer ≡ sender_queue l.fn.self;
  alone : OnlyPushes (producer_view l.producer);
  same : pushed_by (producer_view l.producer) ≡ pushed_by (sender_view l.fn.self);
  full : WereRefused l._refused (sender_queue l.fn.self).capacity (Value elements.End) (sender_view l.fn.self) (producer_view l.producer);
  steps : TakesAtMost (l._refused * (3 + sender_words l.fn.self)) (sender_view l.fn.self) (producer_view l.producer);
}
