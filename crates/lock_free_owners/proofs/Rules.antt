-- What a step does to a find or a recovery, and what their closures were called with.
pub mod Robust
pub mod Container
