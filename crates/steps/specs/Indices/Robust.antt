-- The calls of the robust set of indices, as tables.
pub mod Parts
pub mod Acquire
pub mod Release
pub mod Find
pub mod Recover
pub mod Looks
pub mod Laws
