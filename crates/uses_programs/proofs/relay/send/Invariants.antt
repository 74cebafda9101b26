use Rattle.uses_programs.proofs.Names.{take, Index, Sending}
use Rattle.uses_programs.proofs.relay.send.Given as given

-- the producer has pushed the numbers before `next`
abbrev pub invariant-loop : given.invariant-loop
invariant-loop g l = Sending Index l.initial.producer (take l.next l.numbers) l.producer
