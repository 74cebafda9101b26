pub mod Chains
pub mod Opened
pub mod Acquires
pub mod Releases
pub mod Looks
