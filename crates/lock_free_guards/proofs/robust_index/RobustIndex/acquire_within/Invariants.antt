-- `RobustIndex::acquire_within` (src/robust_index/waits.rt): in its loop each try has found no index
-- left, and took none.
use Rattle.std.proofs.Common.{◌≡◌}
use Rattle.model.specs.declared.event.Start.TheVariants.{Robust}
use Rattle.model.specs.declared.families.indices.robust.RobustStart.TheVariants.{Acquire}
use Rattle.lock_free_owners.specs.RobustUniqueIndexSet.{set_of, view}
use Rattle.lock_free_guards.specs.Tries.{HasTried}
use Rattle.lock_free_guards.proofs.robust_index.RobustIndex.acquire_within.Given as given

abbrev pub invariant-loop : given.invariant-loop
invariant-loop g l = (set_of l.pass ≡ set_of l.fn.pass) × HasTried l.counter (Robust (Acquire l.fn.owner)) (view l.fn.pass) (view l.pass)
