pub mod Empties
pub mod Flags
pub mod Looks
pub mod Resets
pub mod Sets
