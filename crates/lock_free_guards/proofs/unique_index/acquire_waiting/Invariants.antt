-- `acquire_waiting` (src/unique_index.rt): in its loop each try has found no index left, and took none.
use Rattle.std.proofs.Common.{◌≡◌, ℕ}
use Rattle.model.specs.declared.event.Start.TheVariants.{Indices}
use Rattle.model.specs.declared.families.indices.IndexStart.TheVariants.{Acquire}
use Rattle.lock_free_sets.specs.UniqueIndexSet.{set_of, view}
use Rattle.lock_free_guards.specs.Tries.{HasTried}
use Rattle.lock_free_guards.proofs.unique_index.acquire_waiting.Given as given

abbrev pub invariant-loop : given.invariant-loop
invariant-loop g l = (set_of l.pass ≡ set_of l.fn.pass) × ((n : ℕ) × HasTried n (Indices Acquire) (view l.fn.pass) (view l.pass))
