-- The calls on counting bit sets as calls of the model, and what follows from its laws.
pub mod Handed
pub mod Counting
pub mod Looks
pub mod Taken
pub mod Sums
