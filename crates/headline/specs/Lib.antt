-- What every machine does, by kind and by turn: the main theorem, and what its clauses say.
pub mod Bounds
pub mod Ends
pub mod Going
pub mod Headline
pub mod Holders
pub mod Moments
pub mod Nexts
pub mod Strong
