-- That the generation counter of a robust set or a container is at its end only after at least a third
-- of 2^64 - 2 changes.
pub mod Parts
pub mod RobustPays
pub mod RobustCalls
pub mod ContainerPays
pub mod ContainerCalls
pub mod Bounded
pub mod Turns
pub mod RobustWorn
pub mod ContainerWorn
pub mod Laws
