-- What the contracts of this crate speak of.
pub mod Acts
pub mod Ending
pub mod Events
pub mod Order
pub mod Page
pub mod Leases
pub mod Sums
pub mod Copies
pub mod Runs
pub mod Parted
pub mod Wrong
