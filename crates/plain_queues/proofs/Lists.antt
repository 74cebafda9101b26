pub mod Cells
pub mod Pushes
pub mod Pops
pub mod Peeks
pub mod Counts
pub mod Overflows
