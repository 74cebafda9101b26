-- What is found where the state of a party of a container is looked up.
use Rattle.std.specs.Prelude.{◌≡◌, ℕ, ◌<◌, ◌≤◌, Option, Some, None, []}
use Rattle.steps.specs.declared.container.state.ContainerState.{ContainerState}
use Rattle.model.specs.declared.families.Registry.{Registry}
use Rattle.model.specs.declared.families.Registry.TheVariants as registries
use Rattle.model.specs.Families.Container.States.{state_of}

module _ {T : Type 0} where
  -- the party has a state, and it shows nothing
  abbrev pub ShowsNothing : Option (ContainerState T) → Type 0
  ShowsNothing (Some state) = state.shown.elements ≡ []
  ShowsNothing None = ⊥

  -- what a machine gives as the party's state: the one that its looks have written into, before its first
  -- look one that shows nothing, and none where no party has this number
  abbrev pub IsFound : (parties p : ℕ) → Option (ContainerState T) → Option (ContainerState T) → Type 0
  IsFound parties p found (Some state) = found ≡ Some state
  IsFound parties p found None = (p < parties → ShowsNothing found) × (parties ≤ p → found ≡ None)

  -- what a machine with this many parties gives as the party's state; kinds other than the
  -- container have no states
  abbrev pub IsStateIn : Registry T → (parties p : ℕ) → Option (ContainerState T) → Type 0
  IsStateIn (registries.Container dead states) parties p found =
      IsFound parties p found (state_of p states)
  IsStateIn kept parties p found = found ≡ None
