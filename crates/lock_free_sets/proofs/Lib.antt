-- The proofs of the contracts and of the laws.
pub mod Names
pub mod Sums
pub mod Whole
pub mod Looks
mod Steps
pub mod Ends
pub mod Closures
pub mod Unique
pub mod Sets
pub mod Bits
pub mod Counts
