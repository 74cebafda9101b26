-- the tries before sent nothing
use Rattle.std.proofs.Common.{◌≡◌}
use Rattle.uses_streams.specs.Ends.{sender_queue, sent_so_far}
use Rattle.uses_streams.proofs.ends.Sender.send_waiting.Given as given

abbrev pub invariant-loop : given.invariant-loop
invariant-loop g l = (sender_queue l.self ≡ sender_queue l.fn.self) × (sent_so_far l.self ≡ sent_so_far l.fn.self)
