-- What the main theorem says of a whole run: its objects, their states, and the dialogues with those who ask.
pub mod Answers
pub mod Dialogues
pub mod Kinds
pub mod Objects
pub mod States
pub mod Whole
