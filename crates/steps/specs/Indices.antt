pub mod Head
pub mod Robust
pub mod Unique
pub mod UniqueLaws
