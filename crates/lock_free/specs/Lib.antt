-- The words of the public contracts.
pub use Rattle.threaded.specs.Shares
pub use Rattle.threaded.specs.Parts
pub use Rattle.lock_free_owners.specs.Robust
pub use Rattle.lock_free_owners.specs.RobustUniqueIndexSet
pub use Rattle.lock_free_owners.specs.Container
pub use Rattle.lock_free_owners.specs.Enums
pub use Rattle.lock_free_owners.specs.ContainerState
pub use Rattle.lock_free_owners.specs.HistoryLooks
pub use Rattle.history.specs.History
pub use Rattle.history.specs.Known as HistoryKnown
pub use Rattle.model.specs.Coding
pub use Rattle.history.specs.Held as HistoryHeld
pub use Rattle.history.specs.Passes
pub use Rattle.history.specs.Steps as HistorySteps
pub use Rattle.history_laws.specs.Indices as IndexLaws
pub use Rattle.history_laws.specs.Bits as BitLaws
pub use Rattle.history_laws.specs.Counts as CountLaws
pub use Rattle.history_laws.specs.Owners as OwnerLaws
pub use Rattle.history_laws.specs.Containers as ContainerLaws
pub use Rattle.history_laws.specs.Grants as GrantLaws
-- What these laws ask of whoever acts for an owner.
pub use Rattle.lock_free_owners.specs.OwnersGone
pub use Rattle.lock_free_owners.specs.RobustPromises
pub use Rattle.lock_free_owners.specs.ContainerPromises
pub use Rattle.lock_free_owners.specs.ContainerRuns
pub use Rattle.lock_free_sets.specs.HistoryActs
pub use Rattle.history.specs.Order as HistoryOrder
pub use Rattle.history.specs.OneRun as HistoryRun
pub use Rattle.model.specs.Linearizable
pub use Rattle.model.specs.Linearized
pub use Rattle.lock_free_sets.specs.IndexReading
pub use Rattle.lock_free_sets.specs.IndexPromises
pub use Rattle.lock_free_sets.specs.Sums
-- The types that they speak of.
pub use Rattle.atomic_table.specs.Seated.{TableId}
pub use Rattle.model.specs.declared.event.Event
pub use Rattle.history.specs.declared.view as HistoryView
pub use Rattle.lock_free_queues.specs.declared.spsc.ring as QueueEnds
pub use Rattle.lock_free_loans.specs.declared.spsc.loan.places.Place
pub use Rattle.threaded.specs.declared.share.Share
pub use Rattle.steps.specs.declared.enums.UniqueIndexCreationError
pub use Rattle.lock_free_owners.specs.CallbackProgression
pub use Rattle.lock_free_sets.specs.ReleaseMode
pub use Rattle.lock_free_sets.specs.ReleaseState
pub use Rattle.lock_free_sets.specs.UniqueIndexSetAcquireFailure
pub use Rattle.lock_free_sets.specs.BitState
pub use Rattle.steps.specs.declared.words.Words
pub use Rattle.lock_free_value.specs.Value
pub use Rattle.lock_free_queues.specs.Queues
pub use Rattle.lock_free_sets.specs.Whole
pub use Rattle.lock_free_sets.specs.Driven
pub use Rattle.lock_free_sets.specs.Unique
pub use Rattle.lock_free_sets.specs.UniqueIndexSet
pub use Rattle.lock_free_sets.specs.Sets
pub use Rattle.lock_free_sets.specs.Bits
pub use Rattle.lock_free_sets.specs.Counts
pub mod Facts
pub use Rattle.lock_free_loans.specs.Loan
