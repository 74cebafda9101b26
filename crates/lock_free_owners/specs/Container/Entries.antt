-- The entries of a state: the indices at which it shows a value, each with the value, ascending.
use Rattle.std.specs.Prelude.{ℕ, List, take, drop}
use Rattle.steps.specs.Container.State.{shown_from}
use Rattle.steps.specs.declared.container.state.ContainerState.{ContainerState}
use Rattle.steps.specs.declared.container.state.Element.{Element}

module _ {T : Type 0} where
  -- the elements at its indices
  abbrev pub elements_of : ContainerState T → List (Element T)
  elements_of state = take state.capacity state.shown.elements

  -- its entries from this index on
  abbrev pub entries_from : ContainerState T → ℕ → List (ℕ × T)
  entries_from state index = shown_from index (drop index (elements_of state))

  -- all of them
  abbrev pub entries_of : ContainerState T → List (ℕ × T)
  entries_of state = shown_from 0 (elements_of state)
