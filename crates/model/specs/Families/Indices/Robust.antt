-- The family of the robust index set: its calls, its words at the opening,
-- who has died, what its steps write down, and what it promises.
pub mod Bounds
pub mod Calls
pub mod Dead
pub mod Opening
pub mod Promises
pub mod Reading
pub mod Spans
pub mod Steps
