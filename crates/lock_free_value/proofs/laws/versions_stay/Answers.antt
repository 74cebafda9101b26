-- The law `versions_stay` (src/laws.rt; clauses `stored` and `loaded`): what was stored
-- or loaded at a version stays stored or loaded at it as the history goes on.
use Rattle.lock_free_value.proofs.Versions.{still_stored, still_loaded}
use Rattle.lock_free_value.proofs.laws.versions_stay.Goals as goal

-- What was stored at a version stays stored at it.
pub returns-clause-stored : goal.returns-clause-stored
returns-clause-stored g c p v x old new h a = still_stored p v x old new h a

-- What was loaded at a version stays loaded at it.
pub returns-clause-loaded : goal.returns-clause-loaded
returns-clause-loaded g c p v x old new h a = still_loaded p v x old new h a
