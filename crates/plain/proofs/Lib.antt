pub mod Elements
pub mod Emptied
pub mod Found
pub mod Fronts
mod Names
pub mod Places
pub mod Robust
pub mod Rooms
pub mod Stacks
pub mod States
pub mod Values
pub mod Visits
pub mod Walks
