-- The words of the public contracts.
pub mod Loan
