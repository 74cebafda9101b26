-- The proofs of the contracts and of the laws.
mod Names
pub mod Queues
