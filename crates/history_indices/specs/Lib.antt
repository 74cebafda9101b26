-- What a pass has seen of unique index sets.
pub mod Indices
