mod Names
pub mod Acquires
pub mod Core
pub mod Count
pub mod Invariant
pub mod Knows
pub mod LockFree
pub mod Looks
pub mod Moves
pub mod Opening
pub mod Releases
pub mod Scans
pub mod Sound
pub mod Stages
pub mod Steps
pub mod Sums
pub mod Totals
