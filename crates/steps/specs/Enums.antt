-- Which capacities are admitted.
use Rattle.std.specs.Prelude.{ℕ, Option, Some, None, if◌then◌else◌, nat_lt}
use Rattle.steps.specs.declared.enums.UniqueIndexCreationError.{UniqueIndexCreationError}
use Rattle.steps.specs.declared.enums.UniqueIndexCreationError.TheVariants.{ProvidedCapacityGreaterThanMaxCapacity, ProvidedCapacityIsZero}

-- a capacity above the greatest is refused first, then one below the least
abbrev pub capacity_refusal : (least greatest capacity : ℕ) → Option UniqueIndexCreationError
capacity_refusal least greatest capacity =
    if nat_lt greatest capacity
    then Some ProvidedCapacityGreaterThanMaxCapacity
    else if nat_lt capacity least
    then Some ProvidedCapacityIsZero
    else None
