-- What a pass has seen of bit sets and counting bit sets.
pub mod Acts
