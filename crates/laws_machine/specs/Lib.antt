-- What a turn changes, and what it leaves as it was.
pub mod Changes
pub mod Others
pub mod Questions
pub mod Recoveries
