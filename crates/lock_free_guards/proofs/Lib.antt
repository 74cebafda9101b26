-- The proofs about guards, splits, acquires that try again, and the recovery of one owner.
pub mod Grants
pub mod Cuts
pub mod Trying
pub mod UniqueTries
pub mod RobustTries
pub mod OwnerVisits
pub mod OwnerLeft
pub mod Worked
pub mod WrongBodies
