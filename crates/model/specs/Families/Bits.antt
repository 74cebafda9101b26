-- The family of the bit sets and of the counting bit sets: their calls, their words at the opening, what their steps
-- write down, and what they promise.
pub mod Bounds
pub mod Calls
pub mod Opening
pub mod Promises
pub mod Reading
pub mod Steps
