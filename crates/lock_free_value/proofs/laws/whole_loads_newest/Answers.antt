-- The law `whole_loads_newest` (src/laws.rt): who has the whole share loads the last value that it knows.
use Rattle.lock_free_value.proofs.Versions.{newest}
use Rattle.lock_free_value.proofs.laws.whole_loads_newest.Goals as goal

pub returns : goal.returns
returns g c x old new h was is all_old all_new = newest x old new h was is all_old all_new
