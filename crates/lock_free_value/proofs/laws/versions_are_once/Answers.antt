-- The law `versions_are_once` (src/laws.rt): no version is stored twice.
use Rattle.lock_free_value.proofs.Versions.{stored_once}
use Rattle.lock_free_value.proofs.laws.versions_are_once.Goals as goal

pub returns : goal.returns
returns g c p q v x y events a b = stored_once p q v x y events a b
