-- What the parties know of the container: each its own state, from its first look on.
use Rattle.std.specs.Prelude.{ℕ, Option, List}
use Rattle.std.specs.BTreeMap.{insert_entry, is_at}
use Rattle.std.specs.Map.{lookup, set_value}
use Rattle.std.specs.Ordering.{nat_cmp}
use Rattle.steps.specs.Container.State.{no_numbers, shows_nothing, seen_of}
use Rattle.steps.specs.declared.container.state.ContainerState.{ContainerState}
use Rattle.model.specs.Coding.{Coding}

module _ {T : Type 0} where
  -- the party's state, if it has one
  abbrev pub state_of : ℕ → List (ℕ × ContainerState T) → Option (ContainerState T)
  state_of p states = lookup (is_at (nat_cmp p)) states

  -- a new state of the party, in the place of its earlier one if it had one
  abbrev pub with_state : ℕ → ContainerState T → List (ℕ × ContainerState T)
      → List (ℕ × ContainerState T)
  with_state p state states = insert_entry nat_cmp states p state

  -- the party's state becomes this
  abbrev pub set_state : ℕ → ContainerState T → List (ℕ × ContainerState T)
      → List (ℕ × ContainerState T)
  set_state p state states = set_value (is_at (nat_cmp p)) states state

  -- a state that has seen nothing, and shows nothing; a machine's container has the number 0
  abbrev pub fresh : Coding T → ℕ → ContainerState T
  fresh code capacity =
      record {
        container = 0;
        capacity = capacity;
        seen = no_numbers capacity;
        shown = shows_nothing code.value_of code.size capacity;
      }

  -- the state once it has seen what it shows
  abbrev pub settled : ContainerState T → ContainerState T
  settled state = record state { seen = seen_of state.seen state.shown }
