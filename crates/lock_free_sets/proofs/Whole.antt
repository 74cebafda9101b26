-- Who has the whole share makes each call alone.
mod Inside
pub mod Passed
pub mod Alone
