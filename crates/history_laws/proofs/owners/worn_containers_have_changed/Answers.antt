-- The law `worn_containers_have_changed` (src/owners.rt): where no two calls that may lock a container
-- overlap, its counter is at its end only after a third of 2^64 - 2 changes.
use Rattle.lock_free_owners.proofs.Worn.Laws.{worn_container}
use Rattle.history_laws.proofs.owners.worn_containers_have_changed.Goals as goal

pub returns : goal.returns
returns g c code capacity events worn apart = worn_container code capacity events worn apart
