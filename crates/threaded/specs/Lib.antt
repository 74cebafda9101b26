-- What the driver owes for a step, and what the seats of a table share.
pub mod Driver
pub mod Seats
pub mod Sets
pub mod Callable
pub mod Shares
pub mod Parts
