-- The call that empties a set, of flags or of counts, and what is known of a whole call on either.
pub mod Opens
pub mod Answered
mod AtOnce
pub mod Machines
pub mod Emptying
pub mod Emptied
pub mod Passes
