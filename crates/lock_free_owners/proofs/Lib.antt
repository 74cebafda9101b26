-- The proofs of the contracts and laws of the robust set and the container.
mod Names
pub mod Worn
pub mod Rules
pub mod RobustSet
pub mod ContainerSet
