-- What the proofs of clients of queues and of the single value are made of, by the names that `lock_free` has for it.
pub use Rattle.lock_free_value.proofs.Versions as ValueVersions
pub use Rattle.history.proofs.Known as HistoryKnown
pub use Rattle.history.proofs.OneHolder as HistoryOneHolder
pub use Rattle.history_queues.proofs.Holders as HistoryHolders
pub use Rattle.history.proofs.Locks as HistoryLocks
pub use Rattle.history.proofs.Ranks as HistoryRanks
pub use Rattle.lock_free_queues.proofs.Queues
pub use Rattle.lock_free_queues.proofs.Queues.Peeks as QueuePeeks
pub use Rattle.lock_free_queues.proofs.Queues.Positions as QueuePositions
pub use Rattle.lock_free_queues.proofs.Queues.Promised as QueuePromises
pub use Rattle.lock_free_queues.proofs.Queues.Sums as QueueSums
pub use Rattle.lock_free_queues.proofs.Queues.Whole as QueueWhole
pub use Rattle.threaded.proofs.Fractions
pub use Rattle.threaded.proofs.Shares
