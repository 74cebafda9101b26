pub mod Acting
pub mod Ending
pub mod Knowing
pub mod NotAllowed
pub mod OneRunWorked
pub mod Passing
pub mod Tables
