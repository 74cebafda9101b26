-- The calls of the container, as tables.
pub mod Layout
pub mod Enums
pub mod Add
pub mod Remove
pub mod Replace
pub mod Find
pub mod Recover
pub mod State
pub mod Look
pub mod Laws
