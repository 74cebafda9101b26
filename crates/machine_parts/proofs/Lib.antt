pub mod Behind
mod Going
mod Steps
