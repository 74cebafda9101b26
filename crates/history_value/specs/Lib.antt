-- What a pass has seen of the single value.
pub mod Value
pub mod ValueOpened
