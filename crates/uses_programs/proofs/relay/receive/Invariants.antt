use Rattle.uses_programs.proofs.Names.{Index, Receiving}
use Rattle.uses_programs.proofs.relay.receive.Given as given

-- the consumer has popped the numbers in `numbers`
abbrev pub invariant-loop : given.invariant-loop
invariant-loop g l = Receiving Index l.initial.consumer l.numbers.items l.consumer
