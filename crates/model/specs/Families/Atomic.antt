-- The family of the single value: its calls, its words at the opening,
-- what their steps write down, and what they promise.
pub mod Bounds
pub mod Calls
pub mod Objects
pub mod Opening
pub mod Promises
pub mod Reading
pub mod Roles
pub mod Spans
pub mod Steps
