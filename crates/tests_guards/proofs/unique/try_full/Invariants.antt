-- The invariant of the loop of `try_full` (src/unique.rt).
use Rattle.lock_free_sets.specs.UniqueIndexSet.{IsPassOf}
use Rattle.tests_guards.proofs.unique.try_full.Given as given

-- The pass by which all indices are taken is one of the set.
abbrev pub invariant-loop : given.invariant-loop
invariant-loop g l = IsPassOf l.set l.mine
