-- The law `calls_that_lock_are_apart` (src/owners.rt): where no call that may lock was begun,
-- no two of them overlap.
use Rattle.lock_free_owners.proofs.Worn.Laws.{none_overlap}
use Rattle.history_laws.proofs.owners.calls_that_lock_are_apart.Goals as goal

pub returns : goal.returns
returns g c events none = none_overlap events none
