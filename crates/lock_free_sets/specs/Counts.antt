-- The words of the contracts of counting bit sets.
pub mod Callable
pub mod Stages
pub mod Looks
pub mod Contracts
pub mod Sums
pub use Rattle.lock_free_sets.specs.Sets.Calls
pub use Rattle.lock_free_sets.specs.Sets.Handles
