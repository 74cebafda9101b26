-- What a schedule does to a machine, and what is printed of it.
pub mod Output
pub mod Run
pub mod Told
pub mod Written
pub mod Wrong
