-- The words of the contracts.
pub mod Elements
pub mod Streams
pub mod Tries
pub mod Ends
pub mod Values
