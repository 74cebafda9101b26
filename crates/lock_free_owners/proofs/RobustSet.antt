-- What is known of whole calls on a robust set, and of finds and recoveries between two turns.
pub mod Events
pub mod Sound
pub mod Facts
pub mod Opens
pub mod Turns
pub mod Asking
pub mod Finding
pub mod Recoveries
pub mod Looking
pub mod CallAnswers
