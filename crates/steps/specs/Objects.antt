pub mod Counts
pub mod Lists
pub mod Places
pub mod Owners
pub mod Stacks
pub mod Values
