-- the tries before pushed nothing
use Rattle.std.proofs.Common.{[]}
use Rattle.lock_free_queues.specs.Queues.Relays.{Sending}
use Rattle.uses_streams.proofs.queues.pushes.push_waiting.Given as given

abbrev pub invariant-loop : given.invariant-loop
invariant-loop g l = Sending g.E.BoundedKind.named l.fn.producer [] l.producer
