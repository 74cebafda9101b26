-- What clauses see of the publisher's end of the registry (`Roll`), a container with a record for each
-- subscriber: the place of its lane. The publisher has two handles: `looks` only copies the registry's state,
-- and `members` makes all its other calls.
use Rattle.std.specs.Prelude.{◌≡◌, ◌≢◌, ℕ, ◌<◌, Bool, true, Some, IsFalse}
use Rattle.lock_free_owners.specs.Container.Handles.{container_in, knows}
use Rattle.lock_free_owners.specs.Container.Names.{capacity_of, IsLeft}
use Rattle.lock_free_owners.specs.Container.RecoverContract as recoveries
use Rattle.lock_free_owners.specs.Container.Contracts.{HasUpdatedState}
use Rattle.steps.specs.Container.State.{shown_at}
use Rattle.history_owners.specs.ContainerLooks.{ShowsCopied}
use Rattle.history.specs.declared.view.View.{View}
use Rattle.steps.specs.declared.indices.enums.ReleaseMode.TheVariants.{Default}
use Rattle.steps.specs.declared.indices.enums.ReleaseState.{ReleaseState}
use Rattle.zero_copy_bus.specs.declared.roll.Roll.{Roll}

-- what the handle `looks` knows of the registry
abbrev pub look_view : Roll → View ℕ
look_view roll = knows roll.looks

-- what the handle `members` knows of the registry
abbrev pub member_view : Roll → View ℕ
member_view roll = knows roll.members

-- the state that was copied last shows a record with this place (stated as: not every index lacks one)
abbrev pub IsShown : Roll → ℕ → Type 0
IsShown roll place = ¬ ((index : ℕ) → index < roll.state.capacity
    → shown_at roll.state.shown.elements index ≢ Some place)

-- no look was made, and the copied state is the same
abbrev pub HasNotLooked : (old new : Roll) → Type 0
HasNotLooked old new = (look_view new ≡ look_view old) × (new.state ≡ old.state)

-- One look at the registry, a call of `update_state`, has answered `changed`.
pub record HasLooked (changed : Bool) (old new : Roll) : Type 0 where
  pub updated : HasUpdatedState changed (look_view old) (look_view new)
  -- what the state shows was copied by this look or an earlier one; if no change was told, it shows
  -- what it showed before
  pub copied : ShowsCopied new.state.shown (look_view new)
  pub left : IsFalse changed → IsLeft old.state new.state

-- A recovery of the registry for the dead owner, whose caller answered yes about each record that
-- the call asked about.
pub record HasTakenOut (dead : ℕ) (old new : Roll) : Type 0 where
  pub state : ReleaseState
  pub recovered : recoveries.HasRecovered (λ (p : Unit {0}) value yes q. yes ≡ true)
      (record { owner = dead; mode = Default }) state (capacity_of (container_in old.members)) tt tt
      (member_view old) (member_view new)

-- A recovery for the dead owner (`HasTakenOut`), and then a look (`HasLooked`).
pub record HasRecovered (dead : ℕ) (old new : Roll) : Type 0 where
  pub between : Roll
  pub taken : HasTakenOut dead old between
  -- the recovery makes no look
  pub looks : look_view between ≡ look_view old
  pub changed : Bool
  pub looked : HasLooked changed between new
