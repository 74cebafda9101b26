-- The loop has sent `counter` values.
use Rattle.std.proofs.Common.{◌≡◌, ◌+◌}
use Rattle.zero_copy_streams.specs.Ends.{sender_queue, next_of}
use Rattle.zero_copy_streams.proofs.sender.Sender.send_each.Given as given

abbrev pub invariant-loop : given.invariant-loop
invariant-loop g l = record {
  queue : sender_queue l.self ≡ sender_queue l.fn.self;
  next : next_of l.self ≡ next_of l.fn.self + l.counter;
}
