-- The calls on bit sets as calls of the model, and what follows from its laws.
pub mod Cleared
pub mod Looks
pub mod Setting
pub mod Resetting
pub mod Sums
pub mod Turns
