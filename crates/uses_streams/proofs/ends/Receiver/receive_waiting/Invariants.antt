-- the tries before received nothing
use Rattle.std.proofs.Common.{◌≡◌}
use Rattle.uses_streams.specs.Ends.{receiver_queue, received_so_far}
use Rattle.uses_streams.proofs.ends.Receiver.receive_waiting.Given as given

abbrev pub invariant-loop : given.invariant-loop
invariant-loop g l = (receiver_queue l.self ≡ receiver_queue l.fn.self) × (received_so_far l.self ≡ received_so_far l.fn.self)
