-- How a failure of the set of indices is called in a container.
use Rattle.steps.specs.declared.indices.enums.UniqueIndexSetAcquireFailure.{UniqueIndexSetAcquireFailure}
use Rattle.steps.specs.declared.indices.enums.UniqueIndexSetAcquireFailure.TheVariants as acquires
use Rattle.steps.specs.declared.container.enums.ContainerAddFailure.{ContainerAddFailure}
use Rattle.steps.specs.declared.container.enums.ContainerAddFailure.TheVariants.{OutOfSpace, IsLocked}

-- why an add has no index, by why its acquire has none
abbrev pub add_failure : UniqueIndexSetAcquireFailure → ContainerAddFailure
add_failure acquires.OutOfIndices = OutOfSpace
add_failure acquires.IsLocked = IsLocked
