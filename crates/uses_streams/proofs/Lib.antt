pub mod Streams
pub mod Tries
pub mod QueueEnds
pub mod Worked
pub mod WrongBodies
