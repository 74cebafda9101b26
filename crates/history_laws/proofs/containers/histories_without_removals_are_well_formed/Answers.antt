-- The law `histories_without_removals_are_well_formed` (src/containers.rt): where no index was freed and no
-- replace was begun, nobody gives back or replaces what is not his.
use Rattle.history_laws.proofs.ContainerLaws.{none_frees}
use Rattle.history_laws.proofs.containers.histories_without_removals_are_well_formed.Goals as goal

pub returns : goal.returns
returns g c events none = none_frees events none
