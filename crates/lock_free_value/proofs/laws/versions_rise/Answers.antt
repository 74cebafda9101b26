-- The law `versions_rise` (src/laws.rt; clauses `stored` and `loaded`): a store is at a version above all that its guard knew; a load is
-- at one that is not below any that its pass knew.
use Rattle.lock_free_value.proofs.Versions.{stored_above, loaded_above}
use Rattle.lock_free_value.proofs.laws.versions_rise.Goals as goal

-- A store is at a version above all that its guard knew.
pub returns-clause-stored : goal.returns-clause-stored
returns-clause-stored g c x old new h = stored_above x old new h

-- A load is at a version that is not below any that its pass knew.
pub returns-clause-loaded : goal.returns-clause-loaded
returns-clause-loaded g c x old new h = loaded_above x old new h
