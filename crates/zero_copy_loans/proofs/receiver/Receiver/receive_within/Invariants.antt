use Rattle.std.proofs.Common.{[]}
use Rattle.zero_copy_loans.specs.Ends.{HasReceived, TriedToReceive}
use Rattle.zero_copy_loans.proofs.receiver.Receiver.receive_within.Given as given

-- the tries before received no value
abbrev pub invariant-loop : given.invariant-loop
invariant-loop g l = record {
  received : HasReceived [] l.fn.self l.self;
  tried : TriedToReceive l.counter l.fn.self l.self;
}
