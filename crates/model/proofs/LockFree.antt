-- From a measure of each call under way to lock-freedom, and from it to finite loads that end.
pub mod Apart
pub mod Counted
pub mod Fairly
pub mod Falls
pub mod Framed
pub mod Loads
pub mod Machines
pub mod Measure
pub mod Own
pub mod Stays
pub mod Sums
pub mod Walks
pub mod Weighed
pub mod Writes
