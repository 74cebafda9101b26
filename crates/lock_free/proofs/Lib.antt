-- For clients: what follows for who has the whole share, and what their proofs are made of.
pub use Rattle.lock_free_value.proofs.Versions as ValueVersions
pub use Rattle.history.proofs.Known as HistoryKnown
pub use Rattle.history.proofs.OneHolder as HistoryOneHolder
pub use Rattle.history_queues.proofs.Holders as HistoryHolders
pub use Rattle.history.proofs.Locks as HistoryLocks
pub use Rattle.history.proofs.Ranks as HistoryRanks
pub use Rattle.history_bits.proofs.Acts as HistoryActs
pub use Rattle.lock_free_queues.proofs.Queues
pub use Rattle.lock_free_queues.proofs.Queues.Peeks as QueuePeeks
pub use Rattle.lock_free_queues.proofs.Queues.Positions as QueuePositions
pub use Rattle.lock_free_queues.proofs.Queues.Promised as QueuePromises
pub use Rattle.lock_free_queues.proofs.Queues.Sums as QueueSums
pub use Rattle.lock_free_queues.proofs.Queues.Whole as QueueWhole
pub use Rattle.threaded.proofs.Fractions
pub use Rattle.threaded.proofs.Shares
pub use Rattle.lock_free_sets.proofs.Sums
pub use Rattle.lock_free_sets.proofs.Whole
pub use Rattle.lock_free_sets.proofs.Ends
pub use Rattle.lock_free_sets.proofs.Closures
pub use Rattle.lock_free_sets.proofs.Unique
pub use Rattle.lock_free_sets.proofs.Sets
pub use Rattle.lock_free_sets.proofs.Bits
pub use Rattle.lock_free_sets.proofs.Counts
pub use Rattle.lock_free_loans.proofs.Loan
