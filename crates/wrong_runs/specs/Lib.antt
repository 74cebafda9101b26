-- Runs and machines that the main theorem refuses.
pub mod Made
pub mod Wrong
