-- The proofs of the contracts and of the laws.
pub mod Loan
pub mod WrongBodies
