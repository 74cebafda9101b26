-- each pop so far found the queue empty
use Rattle.std.proofs.Common.{◌≡◌, ◌+◌, ◌*◌, false}
use Rattle.history.specs.Steps.{TakesAtMost}
use Rattle.uses_streams.specs.Ends.{receiver_queue, receiver_view, receiver_words, received_so_far, is_at_end}
use Rattle.uses_streams.specs.Tries.{WereEmpty}
use Rattle.uses_streams.proofs.ends.Receiver.receive_within.Given as given

abbrev pub invariant-loop-empty : given.invariant-loop-empty
invariant-loop-empty g l = record {
  queue : receiver_queue l.self ≡ receiver_queue l.fn.self;
  received : received_so_far l.self ≡ received_so_far l.fn.self;
  going : is_at_end l.self ≡ false;
  empty : WereEmpty l._empty (receiver_view l.fn.self) (receiver_view l.self);
  steps : TakesAtMost (l._empty * (3 + receiver_words l.fn.self)) (receiver_view l.fn.self) (receiver_view l.self);
}
