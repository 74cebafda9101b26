-- What the contracts of the bus speak of: its publisher, its subscribers, and the records between them.
pub mod Books
pub mod Bus
pub mod Ends
pub mod Holders
pub mod Lanes
pub mod News
pub mod Outlets
pub mod Pools
pub mod Relays
pub mod Rolls
pub mod Sequences
pub mod Stores
pub mod Words
