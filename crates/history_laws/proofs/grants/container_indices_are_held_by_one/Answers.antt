-- The law `container_indices_are_held_by_one` (src/grants.rt): an index of a container is granted only where
-- nobody holds it, where each remove that freed it was begun by one who might, and each recovery freed it
-- where no call was at it.
use Rattle.history_laws.proofs.GrantsLaws.{container_grants}
use Rattle.history_laws.proofs.grants.container_indices_are_held_by_one.Goals as goal

pub returns : goal.returns
returns g c index code capacity events h freed = container_grants index code capacity events h freed
