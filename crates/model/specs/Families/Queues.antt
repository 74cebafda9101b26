-- The family of the queues: their calls, their words at the opening,
-- what their steps write down, and what they promise.
pub mod Book
pub mod Bounds
pub mod Calls
pub mod Lengths
pub mod Objects
pub mod Opening
pub mod Promises
pub mod Reading
pub mod Roles
pub mod Spans
pub mod Steps
