pub mod Bits
pub mod Counts
pub mod Family
pub mod Laws
pub mod LockFree
mod Names
pub mod Spans
pub mod Words
