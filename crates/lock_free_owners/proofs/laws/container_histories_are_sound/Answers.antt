-- The law `container_histories_are_sound` (src/laws.rt): each event of a container does to its set of indices what it may, and each
-- answer is right; a recovery asks about what its owner had, and frees what it was told to or was shown; where nobody acts for an owner
-- who is gone nor gives back what is not his, no index is granted that somebody holds.
use Rattle.lock_free_owners.proofs.ContainerSet.Sound.{sound_history}
use Rattle.lock_free_owners.proofs.laws.container_histories_are_sound.Goals as goal

pub returns : goal.returns
returns g c code capacity events h = sound_history code capacity events h
