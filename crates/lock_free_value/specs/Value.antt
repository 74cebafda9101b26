-- The words of the contracts of the single value.
pub use Rattle.laws_value.specs.Stored
pub use Rattle.history_value.specs.Value as Reading
pub use Rattle.history_value.specs.ValueOpened as Opened
pub use Rattle.lock_free_value.specs.Calls
pub use Rattle.lock_free_value.specs.Roles
pub use Rattle.lock_free_value.specs.ValueContracts as Contracts
pub use Rattle.lock_free_value.specs.Versions
pub use Rattle.lock_free_value.specs.Handles
