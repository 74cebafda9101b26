-- The invariant of the loop of `publish` (src/rejoins.rt).
use Rattle.zero_copy_bus.specs.Relays.{HasPublished}
use Rattle.tests_bus.proofs.rejoins.publish.Given as given

-- What the publisher has done since the call began is to loan and to publish (`HasPublished`).
abbrev pub invariant-loop : given.invariant-loop
invariant-loop g l = HasPublished l.fn.publisher l.publisher
