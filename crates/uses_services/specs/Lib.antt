-- What the contracts of the services speak of.
pub mod Jobs
pub mod Images
