mod Names
pub mod Core
pub mod Invariant
pub mod Knows
pub mod Loads
pub mod LockFree
pub mod Sound
pub mod Stages
pub mod Steps
pub mod Stores
