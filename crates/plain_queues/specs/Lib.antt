-- Queues of one caller.
pub mod Alone
pub mod FirstSteps
pub mod Overflowing
pub mod Queues
