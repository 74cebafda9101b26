-- The words of the contracts of unique index sets.
pub mod Held
pub mod Pools
pub mod Contracts
pub mod Calls
pub mod Handles
