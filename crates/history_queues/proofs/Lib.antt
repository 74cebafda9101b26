-- What a pass has seen of queues.
pub mod Holders
pub mod AnyRoles
pub mod OverflowCalls
pub mod OverflowHolders
pub mod OverflowPops
pub mod OverflowRoles
pub mod Overflows
pub mod PeekHolders
pub mod Peeks
pub mod QueueCalls
pub mod QueueLaws
pub mod QueueRoles
pub mod QueueRuns
pub mod Queues
pub mod ValueQueueCalls
pub mod ValueQueueRoles
