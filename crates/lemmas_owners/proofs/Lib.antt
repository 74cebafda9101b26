-- Lemmas that laws of the robust set and of the container cite.
pub mod Alive
pub mod Choices
pub mod Counting
pub mod Lists
pub mod OneTurn
pub mod Operations
pub mod Past
