-- Who is gone from a robust index set, and runs in which it stays open.
pub mod Gone
pub mod Open
