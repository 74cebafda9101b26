mod Names
mod Halves
mod Leased
pub mod Rings
mod Readings
