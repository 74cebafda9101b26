-- The words of the contracts.
pub mod Held
pub mod Tries
pub mod Unique
pub mod Acquired
pub mod Recovered
pub mod Guards
pub mod Cuts
