use Rattle.std.proofs.Common.{◌≡◌}
use Rattle.zero_copy_bus.specs.Ends.{spares_in, HasTried}
use Rattle.zero_copy_bus.proofs.publisher.Publisher.loan_waiting.Given as given

-- the tries before gave no loan (`HasTried`), and used no record up
abbrev pub invariant-loop : given.invariant-loop
invariant-loop g l = record {
  tried : HasTried l.fn.self l.self;
  spares : spares_in l.self ≡ spares_in l.fn.self;
}
