-- Who is gone from a container, runs in which it stays open, and how often its calls end.
pub mod ConditionalPromises
pub mod Gone
pub mod Open
