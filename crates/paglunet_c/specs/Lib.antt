pub mod Handles
pub mod Status
pub mod IndexQueue
