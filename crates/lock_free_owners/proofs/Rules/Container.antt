-- How calls of a container keep the rule of its table, and what the closures of a find and a recovery
-- were called with.
pub mod Bare
pub mod Places
pub mod LookRuns
pub mod FindRuns
pub mod Finding
pub mod Recovering
