-- The law `worn_sets_have_changed` (src/owners.rt): where no two calls that may lock a set overlap, its
-- counter is at its end only after a third of 2^64 - 2 changes.
use Rattle.lock_free_owners.proofs.Worn.Laws.{worn_set}
use Rattle.history_laws.proofs.owners.worn_sets_have_changed.Goals as goal

pub returns : goal.returns
returns c capacity events worn apart = worn_set capacity events worn apart
