-- Which owners are gone, and what nobody does for them. Where owners die, the dead are gone. Where nobody
-- sees an owner die, as between threads, also those owners are gone of whom a recovery was told to free an
-- index (its yes says that they are), and those for whom a container's recovery was begun (its begin says
-- that they are).
use Rattle.std.specs.Prelude.{◌≡◌, ◌≢◌, ◌⊎◌, ℕ, ◌<◌, ◌==◌, ◌||◌, Bool, true, false, Some, List, fold}
use Rattle.steps.specs.declared.indices.enums.ReleaseMode.TheVariants.{LockIfLastIndex}
use Rattle.steps.specs.declared.indices.enums.ReleaseState.TheVariants.{Unlocked}
use Rattle.steps.specs.declared.indices.enums.UniqueIndexSetAcquireFailure.TheVariants.{OutOfIndices}
use Rattle.model.specs.declared.event.Answer.TheVariants.{Index, NoIndex, State}
use Rattle.model.specs.declared.event.Event.{Event}
use Rattle.model.specs.declared.event.Event.TheVariants.{Begun, Filled, Granted, FreedOf, Told, Died, Finished}
use Rattle.model.specs.declared.event.Start.TheVariants.{Robust, Container}
use Rattle.model.specs.declared.families.container.ContainerStart.TheVariants as containers
use Rattle.model.specs.declared.families.indices.robust.RobustStart.TheVariants.{Acquire, Release, Recover}
use Rattle.model.specs.Families.Indices.Robust.Promises.{AsksRight, IsFilled, IsUnlocked, HeldThroughout}
use Rattle.model.specs.Families.Indices.Robust.Promises.{FilledSinceFreed, StillToFree, AnswersRight, IsWellFormed}
use Rattle.model.specs.Families.Indices.Robust.Reading.{Asks, Yes, filled_of, is_dead, set_acts_of, IsOneOf}
use Rattle.model.specs.Moments.{HeldSometime}
use Rattle.model.specs.Reading.{Each, Span, Open, span_of}

-- what makes an owner gone: `Death` is that the owner has died, `Word` also that a recovery was told so, or
-- begun for the owner
pub data GoneBy : Type 0 where
  Death : GoneBy
  Word : GoneBy

module _ {T : Type 0} where
  -- Whether the owner is gone after an event: he has died, a recovery was told to free an index of his, or a
  -- container's recovery was begun for him.
  abbrev pub gone_after : ℕ → Bool → Event T → Bool
  gone_after owner gone (Died o) = (o == owner) || gone
  gone_after owner gone (Told p index o) = (o == owner) || gone
  gone_after owner gone (Begun p (Container (containers.Recover o mode))) =
      (o == owner) || gone
  gone_after owner gone e = gone

  -- whether the owner is gone after these events
  abbrev pub is_gone : GoneBy → ℕ → List (Event T) → Bool
  is_gone Death owner events = is_dead owner events
  is_gone Word owner events = fold (gone_after owner) false events

  -- ---- an honest run: nobody acts for an owner who is gone

  -- where the party's call under way is a release or a remove, its owner is not gone
  abbrev pub GivesBackRight : ℕ → List (Event T) → Span T → Type 0
  GivesBackRight owner before (Open (Robust (Release i o mode)) wrote) =
      is_gone Word owner before ≡ false
  GivesBackRight owner before (Open (Container (containers.Remove i o mode)) wrote) =
      is_gone Word owner before ≡ false
  GivesBackRight owner before span = Unit {0}

  -- no index is filled, granted or given back for an owner who is gone, and no add for such an owner ends
  -- with an index
  abbrev pub ActsForRight : List (Event T) → Event T → Type 0
  ActsForRight before (Filled p index owner) = is_gone Word owner before ≡ false
  ActsForRight before (Granted p index owner) = is_gone Word owner before ≡ false
  ActsForRight before (FreedOf p index owner) = GivesBackRight owner before (span_of p before)
  ActsForRight before (Finished p (Container (containers.Add value owner)) (Index index)) =
      is_gone Word owner before ≡ false
  ActsForRight before e = Unit {0}

  -- an honest run: nobody acts in it for an owner who is gone
  abbrev pub IsHonest : List (Event T) → Type 0
  IsHonest events = Each ActsForRight events

  -- the run is honest; where owners die this asks for nothing, since the machine refuses a
  -- turn for a dead owner
  abbrev pub IsHonestBy : GoneBy → List (Event T) → Type 0
  IsHonestBy Death events = Unit {0}
  IsHonestBy Word events = IsHonest events

  -- the run is well-formed and honest; only of such runs is it proved who holds an index
  abbrev pub IsCalm : GoneBy → List (Event T) → Type 0
  IsCalm by events = IsWellFormed events × IsHonestBy by events

  -- ---- what a recovery is told, and how it answers

  -- a recovery may be told to free an index of this owner; where owners die the owner has to be dead
  abbrev pub MayBeTold : GoneBy → ℕ → List (Event T) → Type 0
  MayBeTold Death owner before = is_dead owner before ≡ true
  MayBeTold Word owner before = Unit {0}

  -- a recovery asks rightly, and is told to free only indices of owners of whom `MayBeTold` holds
  abbrev pub AsksBy : GoneBy → List (Event T) → Event T → Type 0
  AsksBy by before (Told p index owner) = MayBeTold by owner before
  AsksBy by before e = AsksRight before e

  -- The recovery asked about each index that was filled with one owner through the whole call, until the call itself
  -- freed it. In an honest run no index that it was told to free has that owner.
  pub record HasRecoveredBy (by : GoneBy) (p : ℕ) (events : List (Event T)) : Type 0 where
    pub asked : (index owner : ℕ) → HeldThroughout p (StillToFree p owner index) events
        → IsOneOf (Asks index owner) (set_acts_of p events)
    pub gone : IsHonestBy by events → (index owner : ℕ) → IsOneOf (Yes index owner) (set_acts_of p events)
        → filled_of index events ≢ Some owner

  -- What an answer says. `worn` is that the counter may be at its end by now; then that may be the reason
  -- of an acquire that answers `OutOfIndices`, and of a release that did not lock.
  abbrev pub AnswersBy : GoneBy → Type 0 → ℕ → List (Event T) → Event T → Type 0
  AnswersBy by worn capacity before (Finished p (Robust (Acquire owner)) (NoIndex OutOfIndices)) =
      IsUnlocked before
      × (worn ⊎ ((index : ℕ) → index < capacity → HeldSometime p (IsFilled index) before))
  AnswersBy by worn capacity before
      (Finished p (Robust (Release index owner LockIfLastIndex)) (State Unlocked)) =
      IsUnlocked before × (worn ⊎ FilledSinceFreed p owner index before)
  AnswersBy by worn capacity before (Finished p (Robust (Recover mode)) (State Unlocked)) =
      IsUnlocked before × HasRecoveredBy by p before
  AnswersBy by worn capacity before e = AnswersRight capacity before e
