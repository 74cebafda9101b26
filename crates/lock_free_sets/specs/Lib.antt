-- The words of the public contracts.
pub mod Whole
pub mod Driven
pub mod Unique
pub mod UniqueIndexSet
pub mod Sets
pub mod Bits
pub mod Counts
pub use Rattle.history_bits.specs.Acts as HistoryActs
pub use Rattle.model.specs.Families.Indices.Reading as IndexReading
pub use Rattle.model.specs.Families.Indices.Promises as IndexPromises
pub use Rattle.model.specs.Families.Bits.Reading as Sums
pub use Rattle.steps.specs.declared.indices.enums.ReleaseMode
pub use Rattle.steps.specs.declared.indices.enums.ReleaseState
pub use Rattle.steps.specs.declared.indices.enums.UniqueIndexSetAcquireFailure
pub use Rattle.steps.specs.declared.bits.counting_bit_set.BitState
