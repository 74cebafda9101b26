-- What a pass knows, as a run of a page.
pub mod Known
pub mod Silent
