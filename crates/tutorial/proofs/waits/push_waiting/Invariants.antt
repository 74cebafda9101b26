-- No push of the loop has added a number so far.
use Rattle.std.proofs.Common.{◌≡◌}
use Rattle.lock_free.specs.Queues.Calls.{producer_view}
use Rattle.lock_free.specs.Queues.Reading.{published}
use Rattle.tutorial.proofs.waits.push_waiting.Given as given

abbrev pub invariant-loop : given.invariant-loop
invariant-loop g l = published (producer_view l.producer).seen ≡ published (producer_view l.fn.producer).seen
