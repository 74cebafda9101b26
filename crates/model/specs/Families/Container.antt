-- The family of the container: its calls, its words at the opening, the states of its parties, what its steps write
-- down, and what it promises.
pub mod Bounds
pub mod Calls
pub mod Keeping
pub mod Looks
pub mod Opening
pub mod Promises
pub mod Questions
pub mod Reading
pub mod Recoveries
pub mod Removals
pub mod Spans
pub mod States
pub mod Steps
