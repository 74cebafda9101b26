-- The values that were stored, for those who use the crate.
pub use Rattle.laws_value.specs.Stored
pub mod Roles
pub mod ValueContracts
pub mod Calls
pub mod Versions
pub mod Loads
pub mod Handles
pub mod Value
