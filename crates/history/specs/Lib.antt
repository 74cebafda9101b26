-- What a pass has seen of a machine: its runs, the calls that stand in it, and what each contract says of them.
pub mod Known
pub mod Held
pub mod Roles
pub mod History
pub mod Rooms
pub mod Stages
pub mod Steps
pub mod Views
pub mod Passes
pub mod Order
pub mod OneRun
