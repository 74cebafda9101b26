-- The words of the contracts.
pub mod Either
pub mod Waits
