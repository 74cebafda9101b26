-- What a pass has seen of the single value.
pub mod ValueCalls
pub mod ValueHolders
pub mod ValueLaws
pub mod ValueOpened
pub mod Values
