-- The law `histories_are_sound` (src/laws.rt): each event of a robust set does to the set what it may,
-- and each answer is right. A recovery asks about an index only with the owner that it has then. Where
-- nobody acts for an owner who is gone nor gives back what is not his, no index is granted that
-- somebody holds.
use Rattle.lock_free_owners.proofs.RobustSet.Sound.{sound_history}
use Rattle.lock_free_owners.proofs.laws.histories_are_sound.Goals as goal

pub returns : goal.returns
returns c capacity events h = sound_history capacity events h
