-- the worker has taken what was received so far
use Rattle.std.proofs.Common.{◌≡◌}
use Rattle.uses_streams.specs.Ends.{receiver_queue, received_so_far}
use Rattle.uses_streams.proofs.ends.Receiver.receive_each.Given as given

abbrev pub invariant-loop : given.invariant-loop
invariant-loop g l = record {
  queue : receiver_queue l.self ≡ receiver_queue l.fn.self;
  taken : g.W.Takes.has_taken (received_so_far l.fn.self) l.fn.worker → g.W.Takes.has_taken (received_so_far l.self) l.worker;
}
