-- What holds of a container's recoveries and answers, by what an owner is gone: by his death, or by the word that the
-- begin of a recovery is.
use Rattle.std.specs.Prelude.{◌≡◌, ◌≢◌, ◌⊎◌, ℕ, ◌<◌, Bool, true, false, Some, List}
use Rattle.steps.specs.declared.container.enums.ContainerAddFailure.TheVariants as failures
use Rattle.steps.specs.declared.indices.enums.ReleaseMode.{ReleaseMode}
use Rattle.steps.specs.declared.indices.enums.ReleaseMode.TheVariants.{LockIfLastIndex, Default}
use Rattle.steps.specs.declared.indices.enums.ReleaseState.TheVariants.{Unlocked}
use Rattle.model.specs.declared.event.Answer.TheVariants.{State, NoPlace}
use Rattle.model.specs.declared.event.Event.{Event}
use Rattle.model.specs.declared.event.Event.TheVariants.{FreedOf, Asked, Told, Finished}
use Rattle.model.specs.declared.event.Start.TheVariants.{Container}
use Rattle.model.specs.declared.families.container.ContainerStart.TheVariants.{Add, Remove, Recover}
use Rattle.model.specs.declared.families.container.calls.ContainerFlight.{ContainerFlight}
use Rattle.model.specs.declared.families.container.calls.ContainerFlight.TheVariants as flights
use Rattle.model.specs.Families.Container.Promises.{WasShown, AnswersRight}
use Rattle.model.specs.Families.Container.Recoveries.{UnlockedAtLast}
use Rattle.model.specs.Families.Indices.Robust.Promises.{IsFilled, IsFilledWith, IsUnlocked, HeldThroughout, FilledSinceFreed, StillToFree}
use Rattle.model.specs.Families.Indices.Robust.Reading.{filled_of, Frees, Asks, Yes, set_acts_of, IsOneOf}
use Rattle.model.specs.Moments.{HeldSometime}
use Rattle.model.specs.Reading.{Span, Open, span_of}
use Rattle.laws_robust.specs.Gone.{GoneBy, is_gone, IsHonestBy}

module _ {T : Type 0} where
  -- ---- recovery

  -- The recovery's owner is gone. It asks about an index that he filled at a moment of the call, and nothing if it
  -- began after the lock.
  abbrev pub AsksBy : GoneBy → List (Event T) → Event T → Type 0
  AsksBy by before (Asked p index owner) =
      HeldSometime p (IsFilledWith owner index) before × HeldSometime p IsUnlocked before
      × (is_gone by owner before ≡ true)
  AsksBy by before (Told p index owner) = is_gone by owner before ≡ true
  AsksBy by before e = Unit {0}

  -- if the span is that of a recovery: the owner is its own and is gone, and it was told to free the index,
  -- or was shown it
  abbrev pub FreedBy : GoneBy → (p index owner : ℕ) → List (Event T) → Span T → Type 0
  FreedBy by p index owner before (Open (Container (Recover o mode)) wrote) =
      (owner ≡ o) × (is_gone by owner before ≡ true)
      × (IsOneOf (Yes index owner) (set_acts_of p before) ⊎ WasShown p index before)
  FreedBy by p index owner before span = Unit {0}

  -- A recovery frees an index for its own owner, who is gone, once it was told to free it, or was shown that
  -- nothing stood there.
  abbrev pub RecoversBy : GoneBy → List (Event T) → Event T → Type 0
  RecoversBy by before (FreedOf p index owner) = FreedBy by p index owner before (span_of p before)
  RecoversBy by before e = Unit {0}

  -- What a recovery of an owner has done by its end. It has asked about each index that was his through the
  -- whole call, until the call itself freed it, or was shown that nothing stood there. In an honest run no
  -- index that it was told to free, or was shown, is his any more.
  pub record HasRecoveredBy (by : GoneBy) (p owner : ℕ) (events : List (Event T)) : Type 0 where
    pub gone : IsHonestBy by events → (index : ℕ)
        → IsOneOf (Yes index owner) (set_acts_of p events) ⊎ WasShown p index events
        → filled_of index events ≢ Some owner
    pub asked : (index : ℕ) → HeldThroughout p (StillToFree p owner index) events
        → IsOneOf (Asks index owner) (set_acts_of p events) ⊎ WasShown p index events

  -- ---- answers

  -- in mode LockIfLastIndex: after each index that the recovery freed another was filled, or the counter may
  -- be at its end (`worn`)
  abbrev pub FilledSinceEachBy : Type 0 → ReleaseMode → (p owner : ℕ) → List (Event T) → Type 0
  FilledSinceEachBy worn LockIfLastIndex p owner events =
      (index : ℕ) → IsOneOf (Frees index owner) (set_acts_of p events)
      → worn ⊎ FilledSinceFreed p owner index events
  FilledSinceEachBy worn Default p owner events = Unit {0}

  -- What an answer says of the events before it, as `AnswersRight` has it; but where an answer needs that an
  -- index was filled, the counter may be at its end (`worn`) instead.
  abbrev pub AnswersBy : GoneBy → Type 0 → ℕ → List (Event T) → Event T → Type 0
  AnswersBy by worn capacity before (Finished p (Container (Add value owner)) (NoPlace failures.OutOfSpace)) =
      IsUnlocked before
      × (worn ⊎ ((index : ℕ) → index < capacity → HeldSometime p (IsFilled index) before))
  AnswersBy by worn capacity before
      (Finished p (Container (Remove index owner LockIfLastIndex)) (State Unlocked)) =
      HeldSometime p IsUnlocked before × (worn ⊎ FilledSinceFreed p owner index before)
  AnswersBy by worn capacity before (Finished p (Container (Recover owner mode)) (State Unlocked)) =
      UnlockedAtLast p before × HasRecoveredBy by p owner before
      × FilledSinceEachBy worn mode p owner before
  AnswersBy by worn capacity before e = AnswersRight capacity before e

  -- ---- who acts

  -- the call adds, removes or replaces for an owner who is gone
  abbrev pub acts_for_gone : GoneBy → List (Event T) → ContainerFlight T → Bool
  acts_for_gone by events (flights.Add run) = is_gone by run.given.owner events
  acts_for_gone by events (flights.Remove run) = is_gone by run.given.owner events
  acts_for_gone by events (flights.Replace run) = is_gone by run.given.owner events
  acts_for_gone by events flight = false
