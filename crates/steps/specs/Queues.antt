-- The calls of the queues, as tables.
pub mod Lengths
pub mod Overflow
pub mod Peek
pub mod Ring
pub mod Roles
