pub mod Calls
pub mod Keeping
pub mod Kinds
pub mod Knows
pub mod Peeks
pub mod Pops
pub mod Pushes
pub mod Words
