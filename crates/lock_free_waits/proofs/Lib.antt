pub mod Tries
mod WrongBodies
