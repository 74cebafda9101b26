-- What a recovery of the robust set in mode LockIfLastIndex has met where it answers Unlocked.
use Rattle.std.specs.Prelude.{ℕ, List}
use Rattle.steps.specs.declared.indices.enums.ReleaseMode.TheVariants.{LockIfLastIndex}
use Rattle.steps.specs.declared.indices.enums.ReleaseState.TheVariants.{Unlocked}
use Rattle.model.specs.declared.event.Answer.TheVariants.{State}
use Rattle.model.specs.declared.event.Event.{Event}
use Rattle.model.specs.declared.event.Event.TheVariants.{Finished}
use Rattle.model.specs.declared.event.Start.TheVariants.{Robust}
use Rattle.model.specs.declared.families.indices.robust.RobustStart.TheVariants.{Recover}
use Rattle.model.specs.Families.Indices.Robust.Promises.{FilledSinceFreed}
use Rattle.model.specs.Families.Indices.Robust.Reading.{Frees, set_acts_of, IsOneOf}

module _ {T : Type 0} where
  -- some index was filled after each that the party's call freed
  abbrev pub FilledSinceEach : ℕ → List (Event T) → Type 0
  FilledSinceEach p events =
      (index owner : ℕ) → IsOneOf (Frees index owner) (set_acts_of p events)
      → FilledSinceFreed p owner index events

  -- Where a recovery in the mode that locks answers that the set is not locked,
  -- some index was filled after each that it freed.
  abbrev pub LocksRight : List (Event T) → Event T → Type 0
  LocksRight before (Finished p (Robust (Recover LockIfLastIndex)) (State Unlocked)) =
      FilledSinceEach p before
  LocksRight before e = Unit {0}
