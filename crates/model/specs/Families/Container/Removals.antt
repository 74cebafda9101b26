-- What stood at an index that a call has freed is hidden before the call ends.
use Rattle.std.specs.Prelude.{◌≡◌, ℕ, None, List}
use Rattle.model.specs.declared.event.Answer.TheVariants.{State}
use Rattle.model.specs.declared.event.Event.{Event}
use Rattle.model.specs.declared.event.Event.TheVariants.{Finished}
use Rattle.model.specs.declared.event.Start.TheVariants.{Container}
use Rattle.model.specs.declared.families.container.ContainerStart.TheVariants.{Remove, Recover}
use Rattle.model.specs.Families.Container.Reading.{contents_of}
use Rattle.model.specs.Families.Indices.Robust.Reading.{Frees, set_acts_of, IsOneOf}
use Rattle.model.specs.Moments.{HeldSometime}

module _ {T : Type 0} where
  -- nothing stood at the index at a moment of the party's call after it had freed it
  abbrev pub EmptySinceFreed : (p owner index : ℕ) → List (Event T) → Type 0
  EmptySinceFreed p owner index events =
      HeldSometime p
      (λ part. IsOneOf (Frees index owner) (set_acts_of p part) × (contents_of index part ≡ None))
      events

  -- If a remove answers a state, there was a moment of the call, after it had freed its index, at which
  -- nothing stood at that index. A recovery, whatever it answers, had such a moment for each index that
  -- it has freed.
  abbrev pub HidesRight : List (Event T) → Event T → Type 0
  HidesRight before (Finished p (Container (Remove index owner mode)) (State state)) =
      EmptySinceFreed p owner index before
  HidesRight before (Finished p (Container (Recover owner mode)) (State state)) =
      (index : ℕ) → IsOneOf (Frees index owner) (set_acts_of p before)
      → EmptySinceFreed p owner index before
  HidesRight before e = Unit {0}
