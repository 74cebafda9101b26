-- What the contracts of the robust index set and of the container speak of.
pub mod Worn
pub mod Robust
pub mod RobustUniqueIndexSet
pub mod Container
pub use Rattle.steps.specs.Enums
pub use Rattle.steps.specs.Container.State as ContainerState
pub use Rattle.history_owners.specs.ContainerLooks as HistoryLooks
-- What laws ask of whoever acts for an owner.
pub use Rattle.laws_robust.specs.Gone as OwnersGone
pub use Rattle.model.specs.Families.Indices.Robust.Promises as RobustPromises
pub use Rattle.model.specs.Families.Container.Promises as ContainerPromises
pub use Rattle.laws_container.specs.Open as ContainerRuns
pub use Rattle.steps.specs.declared.enums.CallbackProgression
