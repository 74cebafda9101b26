-- the tries before popped nothing
use Rattle.std.proofs.Common.{[]}
use Rattle.lock_free_queues.specs.Queues.Relays.{Receiving}
use Rattle.uses_streams.proofs.queues.pops.pop_waiting.Given as given

abbrev pub invariant-loop : given.invariant-loop
invariant-loop g l = Receiving g.E.BoundedKind.named l.fn.consumer [] l.consumer
