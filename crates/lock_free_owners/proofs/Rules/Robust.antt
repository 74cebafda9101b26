-- What the closures of a find and a recovery of a robust set were called with.
pub mod Finding
pub mod Recovering
