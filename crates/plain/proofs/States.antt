pub mod Called
pub mod Changing
pub mod Showing
pub mod Worked
