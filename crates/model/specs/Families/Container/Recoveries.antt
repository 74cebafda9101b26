-- Which recoveries of a container come to indices at all, and when one answers that the
-- container is not locked.
use Rattle.std.specs.Prelude.{◌≡◌, ℕ, List, ◌++◌}
use Rattle.std.specs.List.{AllByRecursion}
use Rattle.steps.specs.declared.indices.enums.ReleaseMode.{ReleaseMode}
use Rattle.steps.specs.declared.indices.enums.ReleaseMode.TheVariants.{LockIfLastIndex, Default}
use Rattle.model.specs.declared.event.Event.{Event}
use Rattle.model.specs.declared.event.Event.TheVariants.{FreedOf, Copied, Shown}
use Rattle.model.specs.declared.event.Start.TheVariants.{Container}
use Rattle.model.specs.declared.families.container.ContainerStart.TheVariants.{Recover}
use Rattle.model.specs.Families.Indices.Robust.Promises.{IsUnlocked, FilledSinceFreed}
use Rattle.model.specs.Families.Indices.Robust.Reading.{Frees, set_acts_of, IsOneOf}
use Rattle.model.specs.Moments.{HeldSometime}
use Rattle.model.specs.Reading.{Span, Open, span_of}
use Rattle.model.specs.World.{Trace}

module _ {T : Type 0} where
  -- ---- what it comes to

  -- the call under way is a recovery
  abbrev pub IsRecovery : Span T → Type 0
  IsRecovery (Open (Container (Recover owner mode)) wrote) = Unit {0}
  IsRecovery span = ⊥

  -- the party's recovery, if it has one under way, began before the lock
  abbrev pub BeganUnlocked : ℕ → List (Event T) → Type 0
  BeganUnlocked p events = IsRecovery (span_of p events) → HeldSometime p IsUnlocked events

  -- a recovery that began after the lock copies nothing, is shown nothing and frees nothing
  abbrev pub VisitsRight : List (Event T) → Event T → Type 0
  VisitsRight before (Copied p index value) = BeganUnlocked p before
  VisitsRight before (Shown p index) = BeganUnlocked p before
  VisitsRight before (FreedOf p index owner) = BeganUnlocked p before
  VisitsRight before e = Unit {0}

  -- If a turn writes that a recovery copied an index, was shown it or freed it, that recovery began
  -- before the lock.
  abbrev pub VisitsUnlocked : (old new : Trace T) → Type 0
  VisitsUnlocked old new =
      (wrote : List (Event T)) → new.events ≡ old.events ++ wrote
      → AllByRecursion (VisitsRight old.events) wrote

  -- ---- when it answers Unlocked

  -- the container was not locked at a moment of the call after all that the call did to the set
  abbrev pub UnlockedAtLast : ℕ → List (Event T) → Type 0
  UnlockedAtLast p events =
      HeldSometime p (λ part. IsUnlocked part × (set_acts_of p part ≡ set_acts_of p events)) events

  -- in the mode that locks, some index was filled after each that it freed
  abbrev pub FilledSinceEach : ReleaseMode → (p owner : ℕ) → List (Event T) → Type 0
  FilledSinceEach LockIfLastIndex p owner events =
      (index : ℕ) → IsOneOf (Frees index owner) (set_acts_of p events)
      → FilledSinceFreed p owner index events
  FilledSinceEach Default p owner events = Unit {0}
