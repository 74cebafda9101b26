-- `halves` (src/ends/calls.rt): its return meets the clause `fresh`.
use Rattle.lock_free_queues.specs.Queues.Rings.{view}
use Rattle.uses_streams.proofs.Streams.{halves_fresh}
use Rattle.uses_streams.proofs.ends.calls.halves.Goals as goal

pub returns-clause-fresh : goal.returns-clause-fresh
returns-clause-fresh g c = halves_fresh _ (view c.args.pass) (view c.split.new.self) (view c.in_ok-other.other) c.requires c.in_ok-other.ensures.cut
