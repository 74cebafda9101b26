-- What the calls on containers add to the history, and what they answer.
use Rattle.std.specs.Prelude.{◌≡◌, ◌≢◌, ◌⊎◌, ℕ, ◌<◌, ◌≤◌, ◌-◌, ◌^◌, Bool, true, false, Some, Result, Ok, Err, List, [], ◌∷◌, ◌++◌, slice_index}
use Rattle.steps.specs.Container.Add.{Added}
use Rattle.steps.specs.Container.Remove.{Removed}
use Rattle.steps.specs.Container.Replace.{Replaced}
use Rattle.steps.specs.Container.State.{shown_number}
use Rattle.steps.specs.Indices.Robust.Parts.{greatest}
use Rattle.steps.specs.declared.container.add.Owned.{Owned}
use Rattle.steps.specs.declared.container.enums.ContainerAddFailure.{ContainerAddFailure}
use Rattle.steps.specs.declared.container.enums.ContainerAddFailure.TheVariants as failures
use Rattle.steps.specs.declared.container.handle.ContainerHandle.{ContainerHandle}
use Rattle.steps.specs.declared.container.recover.DeadOwner.{DeadOwner}
use Rattle.steps.specs.declared.container.replace.Replacement.{Replacement}
use Rattle.steps.specs.declared.container.state.ContainerState.{ContainerState}
use Rattle.steps.specs.declared.indices.enums.ReleaseMode.{ReleaseMode}
use Rattle.steps.specs.declared.indices.enums.ReleaseMode.TheVariants.{Default, LockIfLastIndex}
use Rattle.steps.specs.declared.indices.enums.ReleaseState.{ReleaseState}
use Rattle.steps.specs.declared.indices.enums.ReleaseState.TheVariants as states
use Rattle.steps.specs.declared.indices.robust.release.GiveBack.{GiveBack}
use Rattle.model.specs.declared.event.Answer.{Answer}
use Rattle.model.specs.declared.event.Answer.TheVariants.{NoPlace, Number, State, Truth}
use Rattle.model.specs.declared.event.Event.{Event}
use Rattle.model.specs.declared.event.Event.TheVariants.{Finished}
use Rattle.model.specs.declared.event.Start.TheVariants.{Container}
use Rattle.model.specs.declared.families.container.ContainerStart.{ContainerStart}
use Rattle.model.specs.declared.families.container.ContainerStart.TheVariants.{Add, Remove, Replace, Recover, GetState, UpdateState, Len, IsEmpty, IsLocked}
use Rattle.model.specs.declared.turn.Kind.TheVariants as kinds
use Rattle.model.specs.Coding.{Coding}
use Rattle.model.specs.Families.Container.Calls.{added, removed, replaced}
use Rattle.model.specs.Families.Indices.Reading.{is_locked}
use Rattle.model.specs.Families.Container.Promises.{IsLength, IsLengthTest}
use Rattle.model.specs.Families.Container.Recoveries.{UnlockedAtLast}
use Rattle.model.specs.Families.Indices.Robust.Promises.{IsFilledWith, IsUnlocked, FilledSinceFreed, SetDoes, IsWellFormed, HoldsRight}
use Rattle.model.specs.Families.Indices.Robust.Reading.{filled_of}
use Rattle.model.specs.Moments.{HeldSometime}
use Rattle.model.specs.Reading.{Each}
use Rattle.model.specs.World.{Trace}
use Rattle.laws_robust.specs.Gone.{Word, IsHonest}
use Rattle.laws_container.specs.Gone.{AsksBy, RecoversBy, AnswersBy, HasRecoveredBy, FilledSinceEachBy}
use Rattle.laws_machine.specs.Changes.{changes_of, MeetsChanges}
use Rattle.history.specs.declared.view.View.{View}
use Rattle.history_owners.specs.Container as container
use Rattle.history_owners.specs.ContainerFind.{HasCopied}
use Rattle.history_owners.specs.ContainerLooks.{HasLookedAll}
use Rattle.history.specs.History.{Called, IsBeginning, IsRun}
use Rattle.history.specs.Passes as passes
use Rattle.lock_free_owners.specs.Robust.Contracts.{MetFull}
use Rattle.lock_free_owners.specs.Container.Resting.{SettledFrom}
use Rattle.lock_free_owners.specs.Worn.{MayBeWorn}

module _ {T : Type 0} where
  -- some run with just these events has its counter at its end
  pub record IsWorn (code : Coding T) (capacity : ℕ) (events : List (Event T)) : Type 0 where
    pub trace : Trace T
    pub run : IsRun code kinds.Container capacity trace
    pub is : events ≡ trace.events
    pub worn : slice_index trace.world.words 0 ≡ greatest

  -- What holds of every history of a container: what events do, what a recovery asks about and frees, what
  -- calls answer, and who holds an index.
  pub record IsSound (code : Coding T) (capacity : ℕ) (events : List (Event T)) : Type 0 where
    -- each event does to the set of indices what it may, a recovery asks about and frees what it may,
    -- and each answer is right, where the counter may be worn too
    pub does : Each (SetDoes capacity) events
    pub asks : Each (AsksBy Word) events
    pub recovers : Each (RecoversBy Word) events
    pub answers : Each (AnswersBy Word (IsWorn code capacity events) capacity) events
    -- where nobody acts for an owner who is gone nor gives back what is not his, no index is granted
    -- that somebody holds
    pub holds : IsWellFormed events → IsHonest events → Each HoldsRight events

-- the answer of an add as the model has it: the index at which the value was placed, or the failure
abbrev pub placed : Result ContainerHandle ContainerAddFailure → Added
placed (Ok handle) = Ok handle.index
placed (Err failure) = Err failure

module _ {T : Type 0} where
  -- The last event that the pass has seen is the end of an update of the state that the pass has. If
  -- fewer than 2^64 - 1 changes were counted, its answer is right: true if one was counted since the
  -- look began that last brought that state up to date, false if none was since that look ended.
  pub record HasMet (changed : Bool) (old new : View T) : Type 0 where
    pub by : ℕ
    pub before : List (Event T)
    pub is : new.seen ≡ before ++ Finished by (Container UpdateState) (Truth changed) ∷ []
    pub since : IsBeginning old.seen before
    pub right : changes_of new.seen < 2 ^ 64 - 1
        → MeetsChanges before (Finished by (Container UpdateState) (Truth changed))

module _ {T : Type 0} where
  -- One call of the history, by a party of the pass. If the last call of the pass rested, it had ended
  -- first, in the view `from`. What the call wrote is as `Wrote` says, of the party and the events.
  pub record HasMade (start : ContainerStart T) (answer : Answer T)
      (Wrote : ℕ → List (Event T) → Type 0) (old new : View T) : Type 0 where
    pub from : View T
    pub settled : SettledFrom old from
    pub by : ℕ
    pub mine : new.party ≡ Some by
    pub wrote : List (Event T)
    pub tells : Wrote by wrote
    pub called : Called by (Container start) answer wrote from new

  -- An add fills an index, is granted it, and places the value there, unless the run is not
  -- well-formed; or it is granted none.
  abbrev pub HasAdded : Owned T → Added → View T → View T → Type 0
  HasAdded given answer old =
      HasMade (Add given.value given.owner) (added answer)
      (λ by es. container.HasAdded old.capacity by given answer es) old

  -- a remove frees the index, may lock the container, and hides the value that stood at the index
  abbrev pub HasRemoved : GiveBack → Removed → View T → View T → Type 0
  HasRemoved given answer =
      HasMade (Remove given.index given.owner given.mode) (removed answer)
      (λ by es. container.HasRemoved by given answer es)

  -- a replace hides the value that stood at the index, and places the new one, unless the
  -- run is not well-formed
  abbrev pub HasReplaced : Replacement T → Replaced → View T → View T → Type 0
  HasReplaced given answer =
      HasMade (Replace given.index given.value given.owner) (replaced answer)
      (λ by es. container.HasReplaced by given answer es)

  -- a call of `len` with this answer, which wrote nothing
  abbrev pub HasCounted : ℕ → View T → View T → Type 0
  HasCounted number = HasMade Len (Number number) (λ by es. es ≡ [])

  -- a call of `is_empty` with this answer, which wrote nothing
  abbrev pub HasTested : Bool → View T → View T → Type 0
  HasTested empty = HasMade IsEmpty (Truth empty) (λ by es. es ≡ [])

  -- a call of `is_locked` with this answer, which wrote nothing
  abbrev pub HasLooked : Bool → View T → View T → Type 0
  HasLooked locked = HasMade IsLocked (Truth locked) (λ by es. es ≡ [])

  -- A call of `get_state`, whose answer is how many values the state shows. It copied at most one value
  -- at each index, ascending.
  abbrev pub HasGotState : ContainerState T → View T → View T → Type 0
  HasGotState state old =
      HasMade GetState (Number (shown_number state.shown.elements))
      (λ by es. HasCopied by 0 old.capacity es) old

  -- A call of `update_state`. If it answers that something changed, it copied at most one value at each
  -- index, ascending; else it copied nothing.
  abbrev pub HasUpdatedState : Bool → View T → View T → Type 0
  HasUpdatedState changed old =
      HasMade UpdateState (Truth changed) (λ by es. HasLookedAll old.capacity by changed es) old

  -- ---- answers

  -- The last event that the pass has seen is the end of this call, and what the answer says (`Right`,
  -- of the party and the events) held of the history before that end. Where the counter may be worn,
  -- `container_histories_are_sound` says the same of the run itself.
  pub record Answered (start : ContainerStart T) (answer : Answer T) (Right : ℕ → List (Event T) → Type 0)
      (old new : View T) : Type 0 where
    pub by : ℕ
    pub before : List (Event T)
    pub is : new.seen ≡ before ++ Finished by (Container start) answer ∷ []
    pub since : IsBeginning old.seen before
    pub right : Right by before

  -- why an add placed nothing: the container was locked; or it was not, and each index had an owner at
  -- a moment of the call
  abbrev pub AddsNone : Type 0 → ℕ → ContainerAddFailure → ℕ → List (Event T) → Type 0
  AddsNone worn capacity failures.IsLocked p before = is_locked before ≡ true
  AddsNone worn capacity failures.OutOfSpace p before = IsUnlocked before × MetFull worn capacity p before

  -- What the answer of a remove that freed its index says. `Locked`: the container was locked.
  -- `Unlocked` in the mode that locks: it was not at a moment of the call, and after the remove had
  -- freed its index some index had an owner.
  abbrev pub FreesRight : Type 0 → (index owner : ℕ) → ReleaseMode → ReleaseState → ℕ → List (Event T) → Type 0
  FreesRight worn index owner mode states.Locked p before = is_locked before ≡ true
  FreesRight worn index owner Default states.Unlocked p before = Unit {0}
  FreesRight worn index owner LockIfLastIndex states.Unlocked p before =
      HeldSometime p IsUnlocked before × (worn ⊎ FilledSinceFreed p owner index before)

  -- What the answer of a remove says. A failure: the handle's index is past the capacity, or another
  -- owner had it, or none.
  abbrev pub RemovesRight : Type 0 → ℕ → GiveBack → Removed → ℕ → List (Event T) → Type 0
  RemovesRight worn capacity given (Err failure) p before =
      (capacity ≤ given.index) ⊎ (filled_of given.index before ≢ Some given.owner)
  RemovesRight worn capacity given (Ok state) p before = FreesRight worn given.index given.owner given.mode state p before

  -- What the answer of a replace says. A failure: the handle's index is past the capacity, or another owner
  -- had it at the last step, or none. Success: the handle's owner had the index at a moment of the call.
  abbrev pub ReplacesRight : ℕ → Replacement T → Replaced → ℕ → List (Event T) → Type 0
  ReplacesRight capacity given (Err failure) p before =
      (capacity ≤ given.index) ⊎ (filled_of given.index before ≢ Some given.owner)
  ReplacesRight capacity given (Ok nothing) p before =
      (given.index < capacity) × HeldSometime p (IsFilledWith given.owner given.index) before

  -- What the answer of a recovery says. `Locked`: the container was locked. `Unlocked`: it was not at a
  -- moment after all that the recovery did, the recovery came to each index that had its owner through
  -- the whole call, and in the mode that locks some index had an owner after each free.
  abbrev pub RecoversRight : Type 0 → DeadOwner → ReleaseState → ℕ → List (Event T) → Type 0
  RecoversRight worn given states.Locked p before = is_locked before ≡ true
  RecoversRight worn given states.Unlocked p before =
      UnlockedAtLast p before × HasRecoveredBy Word p given.owner before
      × FilledSinceEachBy worn given.mode p given.owner before

  -- the last event is the end of a remove with this answer, which is right (`RemovesRight`)
  abbrev pub IsRightRemove : GiveBack → Removed → (old new : View T) → Type 0
  IsRightRemove given answer old new =
      Answered (Remove given.index given.owner given.mode) (removed answer)
      (RemovesRight (MayBeWorn new.seen) old.capacity given answer) old new

  -- the last event is the end of a replace with this answer, which is right (`ReplacesRight`)
  abbrev pub IsRightReplace : Replacement T → Replaced → View T → View T → Type 0
  IsRightReplace given answer old =
      Answered (Replace given.index given.value given.owner) (replaced answer)
      (ReplacesRight old.capacity given answer) old

  -- the last event is the end of a recovery with this state as its answer, which is right (`RecoversRight`)
  abbrev pub IsRightRecovery : DeadOwner → ReleaseState → (old new : View T) → Type 0
  IsRightRecovery given state old new =
      Answered (Recover given.owner given.mode) (State state) (RecoversRight (MayBeWorn new.seen) given state) old new

  -- the number, as the answer of `len`, is right: a count over moments of the call
  abbrev pub IsRightLength : ℕ → View T → View T → Type 0
  IsRightLength number old =
      Answered Len (Number number) (λ p before. IsLength p old.capacity number before) old

  -- the last event is the end of an `is_empty` with this answer, which is right (`IsLengthTest`)
  abbrev pub IsRightTest : Bool → View T → View T → Type 0
  IsRightTest empty old =
      Answered IsEmpty (Truth empty) (λ p before. IsLengthTest p old.capacity empty before) old

  -- the last event is the end of an `is_locked`, which answers whether the container is locked then
  abbrev pub IsRightLook : Bool → View T → View T → Type 0
  IsRightLook locked = Answered IsLocked (Truth locked) (λ p before. locked ≡ is_locked before)

  -- an add placed nothing, and the refusal is right: if for want of indices, the pass had not seen the
  -- lock; if for the lock, it has seen it now
  pub record WasNotAdded (value : T) (owner : ℕ) (failure : ContainerAddFailure) (old new : View T)
      : Type 0 where
    pub answered : Answered (Add value owner) (NoPlace failure)
        (AddsNone (MayBeWorn new.seen) old.capacity failure) old new
    pub unlocked : failure ≡ failures.OutOfSpace → is_locked old.seen ≡ false
    pub locked : failure ≡ failures.IsLocked → is_locked new.seen ≡ true

  -- a join of two passes of a container: the last call of `theirs` ends if it rests (`from`), and then
  -- the views are joined
  pub record HasJoined (mine theirs new : View T) : Type 0 where
    pub from : View T
    pub settled : SettledFrom theirs from
    pub joined : passes.HasJoined mine from new
