-- What acquires of one pass that are made in turn, until one of them ends the tries, add
-- to what the pass made.
use Rattle.std.specs.Prelude.{◌≡◌, ◌≤◌, ◌-◌, ℕ, List, [], ◌∷◌, ◌++◌, length, flat_map}
use Rattle.steps.specs.declared.indices.enums.UniqueIndexSetAcquireFailure.TheVariants.{OutOfIndices}
use Rattle.model.specs.declared.event.Answer.TheVariants.{NoIndex}
use Rattle.model.specs.declared.event.Event.{Event}
use Rattle.model.specs.declared.event.Event.TheVariants.{Begun, Finished}
use Rattle.model.specs.declared.event.Start.{Start}
use Rattle.history.specs.declared.view.View.{View}
use Rattle.history.specs.History.{IsBeginning, AreFirst}
use Rattle.history.specs.Passes.{Goes}

-- the events of an acquire of this party to which no index was left
abbrev pub refused_by : Start ℕ → ℕ → List (Event ℕ)
refused_by start p = Begun p start ∷ Finished p start (NoIndex OutOfIndices) ∷ []

-- since the old view the pass has made `number` acquires to which no index was left, and nothing else
pub record HasTried (number : ℕ) (start : Start ℕ) (old new : View ℕ) : Type 0 where
  pub share : new.share ≡ old.share
  pub since : IsBeginning old.seen new.seen
  pub first : AreFirst old.turns new.turns
  -- the party of each try
  pub parties : List ℕ
  pub so_many : length parties ≡ number
  pub made : new.made ≡ old.made ++ flat_map (refused_by start) parties

-- `number` acquires found no index left, and then a last one was tried, for which `Last` holds
pub record EndsTries (number : ℕ) (start : Start ℕ) (Last : View ℕ → View ℕ → Type 0) (old new : View ℕ) : Type 0 where
  -- what was known as the last try began
  pub begun : View ℕ
  pub tried : HasTried number start old begun
  pub last : Last begun new
  pub goes : Goes old new

module _ (start : Start ℕ) (Last : View ℕ → View ℕ → Type 0) where
  -- some acquires, or none, found no index left, and then a last one was tried, for which `Last` holds
  abbrev pub EndsSometime : View ℕ → View ℕ → Type 0
  EndsSometime old new = (number : ℕ) × EndsTries number start Last old new

  -- At most `tries` acquires were tried, and at least one:
  -- each but the last found no index left, and for that one `Last` holds.
  abbrev pub EndsWithin : ℕ → View ℕ → View ℕ → Type 0
  EndsWithin tries old new = (number : ℕ) × (number ≤ tries - 1) × EndsTries number start Last old new

  -- Exactly `tries` acquires were tried, at least one:
  -- each but the last found no index left, and for that one `Last` holds.
  abbrev pub EndsAtLimit : ℕ → View ℕ → View ℕ → Type 0
  EndsAtLimit tries = EndsTries (tries - 1) start Last
