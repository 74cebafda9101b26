-- What the laws speak of.
pub mod Indices
pub mod Bits
pub mod Counts
pub use Rattle.lock_free_owners.specs.Worn as Owners
pub mod Containers
pub mod Grants
