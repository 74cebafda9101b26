-- The values that were stored, in the order in which they came to stand.
pub use Rattle.model.specs.Families.Atomic.Reading.{stores, stored}
