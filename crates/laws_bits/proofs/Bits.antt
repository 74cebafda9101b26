-- That a bit set keeps what it promises.
pub mod Alls
pub mod Core
pub mod Invariant
pub mod Justified
pub mod Kept
pub mod Knows
pub mod Lists
pub mod Looks
pub mod Nexts
pub mod Sets
pub mod Sound
pub mod Steps
