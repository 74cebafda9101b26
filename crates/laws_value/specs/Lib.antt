-- The values that were stored.
pub mod Stored
