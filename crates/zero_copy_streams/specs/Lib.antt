-- What the contracts of this crate speak of.
pub mod Ends
pub mod Tickets
pub mod Streams
