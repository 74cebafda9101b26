use Rattle.zero_copy_bus.specs.Ends.{TriedToReceive}
use Rattle.zero_copy_bus.proofs.Tries.{HasWaited}
use Rattle.zero_copy_bus.proofs.subscriber.Subscriber.receive_within.Given as given

-- the tries before received no record
abbrev pub invariant-loop : given.invariant-loop
invariant-loop g l = record {
  waited : HasWaited l.fn.self l.self;
  tried : TriedToReceive l.counter l.fn.self l.self;
}
