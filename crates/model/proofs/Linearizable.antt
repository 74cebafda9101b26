-- From moments to linearizability.
pub mod Acting
pub mod Kinds
pub mod Members
pub mod Order
pub mod Spans
pub mod Strong
