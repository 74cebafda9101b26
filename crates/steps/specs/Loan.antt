-- The calls of a loan channel, as tables: those that are not the call of one part.
pub mod Back
pub mod Laws
pub mod Layout
pub mod Parts
pub mod Places
pub mod Reclaim
pub mod Send
pub mod TakeBack
