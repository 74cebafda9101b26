-- The family of the unique index set: its calls, its words at the opening,
-- what their steps write down, and what they promise.
pub mod Bounds
pub mod Calls
pub mod Opening
pub mod Promises
pub mod Reading
pub mod Robust
pub mod Spans
pub mod Steps
