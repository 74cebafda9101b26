-- What is known of unique index sets.
pub mod Opens
pub mod Machine
pub mod Facts
pub mod Whole
pub mod Holding
pub mod Tables
pub mod Pools
