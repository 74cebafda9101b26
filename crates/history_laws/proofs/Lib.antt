-- The proofs of the laws.
pub mod BitsSums
pub mod CountsSums
pub mod IndicesHeld
pub mod IndicesSpans
pub mod IndicesLaws
pub mod ContainerLifts
pub mod ContainerRaised
pub mod ContainerLiving
pub mod ContainerFew
pub mod ContainerPlain
pub mod ContainerLaws
pub mod GrantsClaims
pub mod GrantsEvents
pub mod GrantsLaws
pub mod WorkedOwners
