-- The words of the contracts of bit sets and counting bit sets alike.
pub mod Kinds
pub mod Stages
pub mod Calls
pub mod Handles
