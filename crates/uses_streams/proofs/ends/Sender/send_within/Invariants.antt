-- each push so far was refused
use Rattle.std.proofs.Common.{◌≡◌, ◌+◌, ◌*◌}
use Rattle.history.specs.Steps.{TakesAtMost}
use Rattle.model.specs.declared.event.Item.TheVariants.{Value}
use Rattle.uses_streams.specs.declared.element.Element.TheVariants as elements
use Rattle.uses_streams.specs.Ends.{sender_queue, sender_view, sender_words, sent_so_far}
use Rattle.uses_streams.specs.Tries.{WereRefused}
use Rattle.uses_streams.proofs.ends.Sender.send_within.Given as given

abbrev pub invariant-loop-refused : given.invariant-loop-refused
invariant-loop-refused g l = record {
  queue : sender_queue l.self ≡ sender_queue l.fn.self;
  same : sent_so_far l.self ≡ sent_so_far l.fn.self;
  full : WereRefused l._refused (sender_queue l.fn.self).capacity (Value (elements.Value l.value)) (sender_view l.fn.self) (sender_view l.self);
  steps : TakesAtMost (l._refused * (3 + sender_words l.fn.self)) (sender_view l.fn.self) (sender_view l.self);
}
