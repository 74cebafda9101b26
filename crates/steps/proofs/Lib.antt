pub mod Elements
pub mod Flags
pub mod Masks
pub mod Places
