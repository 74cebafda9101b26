-- The calls of the bit sets and of the counting bit sets, as tables.
pub mod Words
pub mod Places
pub mod BitSet
pub mod Counts
pub mod Looks
pub mod ResetAll
pub mod Laws
