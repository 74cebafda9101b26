-- What a pass has seen of robust sets and containers.
pub mod Robust
pub mod Container
pub mod ContainerFind
pub mod ContainerLooks
pub mod ContainerRecovery
pub mod Finds
pub mod Settled
