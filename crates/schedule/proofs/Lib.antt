pub mod Examples
pub mod Known
pub mod Lines
pub mod Turns
pub mod Whole
pub mod Writing
