-- The law `histories_without_recoveries_are_faithful` (src/containers.rt): where no recovery began and no
-- owner died, nobody acts for an owner who is gone.
use Rattle.history_laws.proofs.ContainerLaws.{none_recovers}
use Rattle.history_laws.proofs.containers.histories_without_recoveries_are_faithful.Goals as goal

pub returns : goal.returns
returns g c events none = none_recovers events none
