-- the tries before sent nothing
use Rattle.std.proofs.Common.{◌≡◌}
use Rattle.zero_copy_streams.specs.Ends.{sender_queue, sent_so_far, next_of}
use Rattle.zero_copy_streams.proofs.sender.Sender.send_waiting.Given as given

abbrev pub invariant-loop : given.invariant-loop
invariant-loop g l = record {
  queue : sender_queue l.self ≡ sender_queue l.fn.self;
  sent : sent_so_far l.self ≡ sent_so_far l.fn.self;
  next : next_of l.self ≡ next_of l.fn.self;
}
