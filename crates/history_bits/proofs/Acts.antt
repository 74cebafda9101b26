-- The calls of the bit sets as acts on single places.
pub mod BitActs
pub mod BitWays
pub mod CountActs
pub mod Filling
pub mod Finds
pub mod Laws
pub mod Machines
pub mod Marks
pub mod Ways
pub mod Worked
