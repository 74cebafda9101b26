-- its places and its slots stay
use Rattle.std.proofs.Common.{◌≡◌}
use Rattle.zero_copy_loans.specs.Pools.{places_lent, slots_lent}
use Rattle.zero_copy_loans.proofs.pool.Lender.acquire_within.Given as given

abbrev pub invariant-loop : given.invariant-loop
invariant-loop g l = (places_lent l.self ≡ places_lent l.fn.self) × (slots_lent l.self ≡ slots_lent l.fn.self)
