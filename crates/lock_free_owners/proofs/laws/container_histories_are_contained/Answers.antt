-- The law `container_histories_are_contained` (src/laws.rt): each add and replace that succeeded has placed its value, and what is
-- copied stands there, whole.
use Rattle.lock_free_owners.proofs.Names.{is_open_container}
use Rattle.lock_free_owners.proofs.laws.container_histories_are_contained.Goals as goal

pub returns : goal.returns
returns g c code capacity events h = (is_open_container code capacity h.trace h.run).contained
