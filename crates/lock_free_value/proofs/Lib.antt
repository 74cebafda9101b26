-- What the calls on a value tell, and the laws of its versions.
mod Names
pub mod Facts
pub mod Versions
pub mod Opens
