mod Alternating
mod Linear
mod Orders
mod Overlaps
mod Passing
pub mod PushAlone
mod Renamed
mod Worked
mod WorkedMerges
mod WorkedRoles
