-- The words of the contracts of bit sets.
pub mod Callable
pub mod Stages
pub mod Resetting
pub mod Looks
pub mod Contracts
pub use Rattle.lock_free_sets.specs.Sets.Calls
pub use Rattle.lock_free_sets.specs.Sets.Handles
