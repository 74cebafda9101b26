-- The invariant of the loop of `use_robust` (src/threads.rt).
use Rattle.lock_free_owners.specs.RobustUniqueIndexSet.{IsPassOf}
use Rattle.tests_guards.proofs.threads.use_robust.Given as given

-- The pass that is handed on from round to round is one of the set.
abbrev pub invariant-loop : given.invariant-loop
invariant-loop g l = IsPassOf l.fn.set l.pass
