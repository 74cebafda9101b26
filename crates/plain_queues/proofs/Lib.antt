-- Queues of one caller.
pub mod Alone
pub mod Lists
pub mod Words
