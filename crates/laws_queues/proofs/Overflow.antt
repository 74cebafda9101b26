pub mod Core
pub mod Keeping
pub mod Knows
pub mod Pops
pub mod Publishes
pub mod Pushes
pub mod Takes
pub mod Waiting
