-- What the contracts of the programs speak of.
pub mod Bells
pub mod Leases
pub mod Readings
