-- The proofs about shares, about what a step owes, and about closures.
pub mod Shares
pub mod Fractions
pub mod Driving
pub mod Callable
