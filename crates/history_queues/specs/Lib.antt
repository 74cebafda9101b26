-- What a pass has seen of queues.
pub mod Overflow
pub mod Queues
pub mod ValueQueue
