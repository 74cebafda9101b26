-- What the impls that `bin/words` writes cite.
pub mod Fields
