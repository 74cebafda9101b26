-- The numbers of `src/status.rt`.
use Rattle.std.specs.Prelude.{ℕ, None, Some}
use Rattle.std.specs.declared.option.Option.{Option}
use Rattle.steps.specs.declared.enums.UniqueIndexCreationError.{UniqueIndexCreationError}
use Rattle.steps.specs.declared.enums.UniqueIndexCreationError.TheVariants.{ProvidedCapacityGreaterThanMaxCapacity, ProvidedCapacityIsZero, NoMemory}

abbrev pub ok : ℕ
ok = 0

abbrev pub full : ℕ
full = 1

abbrev pub empty : ℕ
empty = 2

abbrev pub taken : ℕ
taken = 3

abbrev pub no_memory : ℕ
no_memory = 4

abbrev pub wrong_handle : ℕ
wrong_handle = 7

-- the answer of a call that makes a structure and fails: for the capacity, or else for memory
abbrev pub number_of : Option UniqueIndexCreationError → ℕ
number_of (Some ProvidedCapacityGreaterThanMaxCapacity) = 5
number_of (Some ProvidedCapacityIsZero) = 6
number_of (Some NoMemory) = no_memory
number_of None = no_memory
