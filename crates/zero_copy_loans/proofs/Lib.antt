pub mod Ends
pub mod Merged
pub mod Numbers
mod Places
pub mod Relayed
mod Shares
pub mod WrongBodies
pub mod WrongEnds
