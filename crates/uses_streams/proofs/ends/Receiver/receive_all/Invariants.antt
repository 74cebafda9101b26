-- what was received so far is in the vector
use Rattle.std.proofs.Common.{◌≡◌}
use Rattle.uses_streams.specs.Ends.{receiver_queue, received_so_far, GainAlike}
use Rattle.uses_streams.proofs.ends.Receiver.receive_all.Given as given

abbrev pub invariant-loop : given.invariant-loop
invariant-loop g l = record {
  queue : receiver_queue l.self ≡ receiver_queue l.fn.self;
  came : GainAlike (received_so_far l.fn.self) (received_so_far l.self) l.fn.values.items l.values.items;
}
