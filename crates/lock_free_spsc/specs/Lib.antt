-- The words of the public contracts of queues, by the names that `lock_free` has for them.
pub use Rattle.threaded.specs.Shares
pub use Rattle.threaded.specs.Parts
pub use Rattle.history.specs.History
pub use Rattle.history.specs.Known as HistoryKnown
pub use Rattle.model.specs.Coding
pub use Rattle.history.specs.Held as HistoryHeld
pub use Rattle.history.specs.Passes
pub use Rattle.history.specs.Steps as HistorySteps
pub use Rattle.history.specs.Order as HistoryOrder
pub use Rattle.history.specs.OneRun as HistoryRun
pub use Rattle.model.specs.Linearizable
pub use Rattle.model.specs.Linearized
pub use Rattle.lock_free_queues.specs.Queues
-- The types that they speak of.
pub use Rattle.atomic_table.specs.Seated.{TableId}
pub use Rattle.model.specs.declared.event.Event
pub use Rattle.history.specs.declared.view as HistoryView
pub use Rattle.lock_free_queues.specs.declared.spsc.ring as QueueEnds
pub use Rattle.threaded.specs.declared.share.Share
pub use Rattle.steps.specs.declared.enums.UniqueIndexCreationError
pub use Rattle.steps.specs.declared.words.Words
