pub mod LockFree
mod Names
pub mod Overflow
pub mod Queues
pub mod Ring
