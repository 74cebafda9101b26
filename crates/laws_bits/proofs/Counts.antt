-- That a counting bit set keeps what it promises.
pub mod Core
pub mod Invariant
pub mod Resets
pub mod Steps
pub mod Sound
pub mod Kept
pub mod Justified
