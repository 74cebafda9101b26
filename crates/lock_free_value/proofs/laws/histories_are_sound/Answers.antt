-- The law `histories_are_sound` (src/laws.rt): each answer in a history of a value is right, and who stores holds the role.
use Rattle.lock_free_value.proofs.Versions.{sound_history}
use Rattle.lock_free_value.proofs.laws.histories_are_sound.Goals as goal

pub returns : goal.returns
returns g c code events h = sound_history code events h
