-- What the calls of one caller do to a structure.
pub mod Bits
pub mod Callable
pub mod Contents
pub mod Following
pub mod Robust
pub mod States
pub mod Unique
pub mod Value
pub mod Visited
pub mod Visits
