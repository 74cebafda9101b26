-- The law `container_updates_meet_changes` (src/laws.rt): an update of a pass's state answers whether a change was counted since the
-- look before.
use Rattle.lock_free_owners.proofs.ContainerSet.UpdateAnswers.{history_meets}
use Rattle.lock_free_owners.proofs.laws.container_updates_meet_changes.Goals as goal

pub returns : goal.returns
returns g c code capacity events h few = history_meets code capacity events h few
