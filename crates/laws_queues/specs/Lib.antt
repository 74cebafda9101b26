-- The machines of queues, and runs of them in which no position runs over.
pub mod Kinds
