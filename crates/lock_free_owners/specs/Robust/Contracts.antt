-- What the calls on robust unique index sets add to the history, and what they answer.
use Rattle.std.specs.Prelude.{◌≡◌, ◌≢◌, ◌⊎◌, ℕ, ◌+◌, ◌<◌, Bool, true, false, Some, None, Ok, Err, List, [], ◌∷◌, ◌++◌, sum_by, slice_index}
use Rattle.steps.specs.Indices.Robust.Acquire.{Acquired}
use Rattle.steps.specs.Indices.Robust.Parts.{greatest}
use Rattle.steps.specs.Indices.Robust.Release.{Released}
use Rattle.steps.specs.declared.enums.CallbackProgression.{CallbackProgression}
use Rattle.steps.specs.declared.indices.enums.ReleaseMode.{ReleaseMode}
use Rattle.steps.specs.declared.indices.enums.ReleaseMode.TheVariants.{Default, LockIfLastIndex}
use Rattle.steps.specs.declared.indices.enums.ReleaseState.{ReleaseState}
use Rattle.steps.specs.declared.indices.enums.ReleaseState.TheVariants as states
use Rattle.steps.specs.declared.indices.enums.UniqueIndexSetAcquireFailure.{UniqueIndexSetAcquireFailure}
use Rattle.steps.specs.declared.indices.enums.UniqueIndexSetAcquireFailure.TheVariants as failures
use Rattle.steps.specs.declared.indices.robust.release.GiveBack.{GiveBack}
use Rattle.model.specs.declared.event.Answer.{Answer}
use Rattle.model.specs.declared.event.Answer.TheVariants.{NoIndex, State, Number, Truth}
use Rattle.model.specs.declared.event.Event.{Event}
use Rattle.model.specs.declared.event.Event.TheVariants.{Filled, Granted, FreedOf, Finished}
use Rattle.model.specs.declared.event.Start.TheVariants.{Robust}
use Rattle.model.specs.declared.families.indices.robust.RobustStart.{RobustStart}
use Rattle.model.specs.declared.families.indices.robust.RobustStart.TheVariants.{Acquire, Release, Recover, BorrowedIndices, IsLocked}
use Rattle.model.specs.declared.turn.Kind.TheVariants as kinds
use Rattle.model.specs.Coding.{one_word}
use Rattle.model.specs.Families.Indices.Reading.{is_locked}
use Rattle.model.specs.Families.Indices.Robust.Calls.{acquire_answer, release_answer}
use Rattle.model.specs.Families.Indices.Robust.Promises.{IsFilled, IsUnlocked, IsCount, SetDoes, IsWellFormed, HoldsRight, FilledSinceFreed}
use Rattle.model.specs.Families.Indices.Robust.Reading.{filled_of, holder_of}
use Rattle.model.specs.Moments.{HeldSometime}
use Rattle.model.specs.Reading.{Each}
use Rattle.model.specs.World.{Trace}
use Rattle.laws_robust.specs.Gone.{Word, IsHonest, AsksBy, AnswersBy, HasRecoveredBy}
use Rattle.threaded.specs.Shares.{IsAll}
use Rattle.history.specs.declared.view.View.{View}
use Rattle.history.specs.History.{Called, IsBeginning, IsOfParties, IsRun, AreFirst}
use Rattle.history.specs.Known.{events_by}
use Rattle.history_owners.specs.Robust as robust
use Rattle.lock_free_owners.specs.Robust.Callable.{HasFound, HasVisited}
use Rattle.lock_free_owners.specs.Worn.{MayBeWorn}

-- One call of the history, by a party of the pass. What it wrote is as `Wrote` says, of the party and
-- the events. `Called` says that the call begins after what was seen, and ends with this answer as the
-- last event seen.
pub record HasMade (start : RobustStart) (answer : Answer ℕ) (Wrote : ℕ → List (Event ℕ) → Type 0)
    (old new : View ℕ) : Type 0 where
  pub by : ℕ
  pub mine : new.party ≡ Some by
  pub wrote : List (Event ℕ)
  pub tells : Wrote by wrote
  pub called : Called by (Robust start) answer wrote old new

-- an acquire fills an index and is granted it, or was granted none
abbrev pub HasTaken : ℕ → Acquired → View ℕ → View ℕ → Type 0
HasTaken owner answer old =
    HasMade (Acquire owner) (acquire_answer answer)
    (λ by es. robust.AcquireWrote old.capacity by owner answer es) old

-- a release frees the index, and may lock the set
abbrev pub HasGiven : GiveBack → Released → View ℕ → View ℕ → Type 0
HasGiven given answer =
    HasMade (Release given.index given.owner given.mode) (release_answer answer)
    (λ by es. robust.ReleaseWrote by given answer es)

-- A recovery is one call of the history, by a party of the pass, and its closures were
-- called as the history says.
pub record HasRecovered {F S : Type 0} (step : F → ℕ → ℕ → Bool → F → Type 0)
    (tell : S → ℕ → ℕ → S → Type 0) (mode : ReleaseMode) (state : ReleaseState)
    (f : F) (s : S) (f_last : F) (s_last : S) (old new : View ℕ) : Type 0 where
  -- the party that makes the call
  pub by : ℕ
  pub mine : new.party ≡ Some by
  -- the indices that it came to, with what it did at each: they ascend below the capacity, and each did
  -- what the mode lets it
  pub visits : List robust.Visit
  pub ascend : robust.AreVisits mode old.capacity visits
  -- it wrote just what it did at these visits
  pub called : Called by (Robust (Recover mode)) (State state) (robust.wrote_by by visits) old new
  -- The first closure was asked about just these visits, and said yes to those that the recovery was
  -- told to free. The second was told of just those that it freed. They became `f_last` and `s_last`.
  pub visited : HasVisited step tell f s visits f_last s_last
  -- a recovery that begins where the lock was seen comes to no index
  pub nothing : is_locked old.seen ≡ true → visits ≡ []

-- a call of `borrowed_indices` with this answer, which wrote nothing
abbrev pub HasCounted : ℕ → View ℕ → View ℕ → Type 0
HasCounted number = HasMade BorrowedIndices (Number number) (λ by es. es ≡ [])

-- a call of `is_locked` with this answer, which wrote nothing
abbrev pub HasLooked : Bool → View ℕ → View ℕ → Type 0
HasLooked locked = HasMade IsLocked (Truth locked) (λ by es. es ≡ [])

-- From `old` to `new` the pass has only looked: it has made nothing, and has seen more of the history.
pub record OnlyLooked {T : Type 0} (old new : View T) : Type 0 where
  -- its capacity, party, call under way, state, share and own events are as they were
  pub capacity : new.capacity ≡ old.capacity
  pub party : new.party ≡ old.party
  pub going : new.going ≡ old.going
  pub state : new.state ≡ old.state
  pub share : new.share ≡ old.share
  pub made : new.made ≡ old.made
  -- each operation asked for since is aside: no step of a call
  pub aside : new.asked + old.aside ≡ old.asked + new.aside
  -- The pass knows one history and one run. They go on from what it had seen, and from what a pass that
  -- it took in had seen (`other`).
  pub other : new.other ≡ []
  pub since : IsBeginning old.seen new.seen
  pub first : AreFirst old.turns new.turns
  pub theirs : IsBeginning old.other new.seen
  pub theirs_first : AreFirst old.other_turns new.turns
  -- with the whole share it has seen just what it, or the pass that it took in, had seen, and it has
  -- made all of it
  pub whole : IsAll old.share → (new.seen ≡ old.seen) ⊎ (new.seen ≡ old.other)
  pub all : IsAll old.share → (f : Event T → ℕ) → sum_by f new.seen ≡ sum_by f new.made
  -- it made just the events of its parties; if it knew one history alone, none of these parties has
  -- done anything since
  pub parties : IsOfParties new
  pub apart : old.other ≡ [] → 0 < old.share.part → (p : ℕ) → parties.owner p ≡ parties.seat
      → events_by p since.rest ≡ []

-- A find begins with a look at the lock, which is a call of the history: it shows where the find
-- begins. Its other operations are loads that only look. Which indices the find came to is said of the
-- moments from the end of that call to its own end.
pub record HasSearched {F : Type 0} (step : F → ℕ → CallbackProgression → F → Type 0) (capacity owner : ℕ)
    (f : F) (number : ℕ) (last : F) (old new : View ℕ) : Type 0 where
  -- the answer of the look at the lock, and what the pass knew after it
  pub locked : Bool
  pub begun : View ℕ
  pub begins : HasLooked locked old begun
  pub looks : OnlyLooked begun new
  pub found : HasFound step capacity owner f number last begun.seen new.seen

module _ {T : Type 0} where
  -- the call has written this event, and before it the history was as `Before` says
  pub record WroteAt (event : ℕ → Event T) (Before : ℕ → List (Event T) → Type 0)
      (old new : View T) : Type 0 where
    -- the party, and the history before the event and after it; it goes on from what the pass had seen
    pub by : ℕ
    pub before : List (Event T)
    pub after : List (Event T)
    pub is : new.seen ≡ before ++ event by ∷ after
    pub since : IsBeginning old.seen before
    pub held : Before by before

  -- the call filled the index for this owner: it had no owner then, and the set was not locked at some
  -- moment of the call
  abbrev pub WasFilled : (index owner : ℕ) → (old new : View T) → Type 0
  WasFilled index owner old new =
      WroteAt (λ by. Filled by index owner)
      (λ by before. (index < old.capacity) × (filled_of index before ≡ None)
      × HeldSometime by IsUnlocked before) old new

  -- The call was granted the index: the set was not locked then. If nobody acts for an owner who is
  -- gone nor gives back what is not his, nobody held the index then.
  abbrev pub WasGranted : (index owner : ℕ) → (old new : View T) → Type 0
  WasGranted index owner old new =
      WroteAt (λ by. Granted by index owner)
      (λ by before. IsUnlocked before
      × (IsWellFormed new.seen → IsHonest new.seen → holder_of index before ≡ None)) old new

  -- the call freed the index of this owner, who had it then
  abbrev pub WasFreed : (index owner : ℕ) → View T → View T → Type 0
  WasFreed index owner =
      WroteAt (λ by. FreedOf by index owner) (λ by before. filled_of index before ≡ Some owner)

-- some run with just these events has its counter at its end
pub record IsWorn (capacity : ℕ) (events : List (Event ℕ)) : Type 0 where
  pub trace : Trace ℕ
  pub run : IsRun one_word kinds.Robust capacity trace
  pub is : events ≡ trace.events
  pub worn : slice_index trace.world.words 0 ≡ greatest

-- What holds of every history of a robust set: what events do, what a recovery asks, what calls answer, and
-- who holds an index.
pub record IsSound (capacity : ℕ) (events : List (Event ℕ)) : Type 0 where
  -- each event does to the set what it may, each question of a recovery is about an owner that has the
  -- index, and each answer is right, where the counter may be worn too
  pub does : Each (SetDoes capacity) events
  pub asks : Each (AsksBy Word) events
  pub answers : Each (AnswersBy Word (IsWorn capacity events) capacity) events
  -- where nobody acts for an owner who is gone nor gives back what is not his, no index is
  -- granted that somebody holds
  pub holds : IsWellFormed events → IsHonest events → Each HoldsRight events

-- ---- answers

-- The last event that the pass has seen is the end of this call, and what the answer says (`Right`, of
-- the party and the events) held of the history before that end. Where the counter may be worn,
-- `histories_are_sound` says the same of the run itself.
pub record Answered (start : RobustStart) (answer : Answer ℕ) (Right : ℕ → List (Event ℕ) → Type 0)
    (old new : View ℕ) : Type 0 where
  pub by : ℕ
  pub before : List (Event ℕ)
  pub is : new.seen ≡ before ++ Finished by (Robust start) answer ∷ []
  pub since : IsBeginning old.seen before
  pub right : Right by before

-- each index had an owner at a moment of the call, or the counter may be worn
abbrev pub MetFull : {T : Type 0} → Type 0 → ℕ → ℕ → List (Event T) → Type 0
MetFull worn capacity p before =
    worn ⊎ ((index : ℕ) → index < capacity → HeldSometime p (IsFilled index) before)

-- why an acquire took no index: the set was locked; or it was not, and each index had an owner at a
-- moment of the call
abbrev pub RefusesRight : Type 0 → ℕ → UniqueIndexSetAcquireFailure → ℕ → List (Event ℕ) → Type 0
RefusesRight worn capacity failures.IsLocked p before = is_locked before ≡ true
RefusesRight worn capacity failures.OutOfIndices p before = IsUnlocked before × MetFull worn capacity p before

-- What the answer of a release says. A failure: another owner had the index, or none. `Locked`: the set
-- was locked. `Unlocked` in the mode that locks: it was not, and after the release had freed its index
-- some index had an owner.
abbrev pub ReleasesRight : Type 0 → (index owner : ℕ) → ReleaseMode → Released → ℕ → List (Event ℕ) → Type 0
ReleasesRight worn index owner mode (Err failure) p before = filled_of index before ≢ Some owner
ReleasesRight worn index owner mode (Ok states.Locked) p before = is_locked before ≡ true
ReleasesRight worn index owner Default (Ok states.Unlocked) p before = Unit {0}
ReleasesRight worn index owner LockIfLastIndex (Ok states.Unlocked) p before =
    IsUnlocked before × (worn ⊎ FilledSinceFreed p owner index before)

-- What the answer of a recovery says. `Locked`: the set was locked. `Unlocked`: it was not, and the
-- recovery asked about each index that had one owner through the whole call.
abbrev pub RecoversRight : ReleaseState → ℕ → List (Event ℕ) → Type 0
RecoversRight states.Locked p before = is_locked before ≡ true
RecoversRight states.Unlocked p before = IsUnlocked before × HasRecoveredBy Word p before

-- the last event is the end of a release with this answer, which is right (`ReleasesRight`)
abbrev pub IsRightRelease : (index owner : ℕ) → ReleaseMode → Released → View ℕ → View ℕ → Type 0
IsRightRelease index owner mode answer old new =
    Answered (Release index owner mode) (release_answer answer)
    (ReleasesRight (MayBeWorn new.seen) index owner mode answer) old new

-- this state, as the answer of a recovery, is right
abbrev pub IsRightRecovery : ReleaseMode → ReleaseState → View ℕ → View ℕ → Type 0
IsRightRecovery mode state = Answered (Recover mode) (State state) (RecoversRight state)

-- the number, as the answer of `borrowed_indices`, is right: 0 if the set was locked, else a count over
-- moments of the call
abbrev pub IsRightCount : ℕ → View ℕ → View ℕ → Type 0
IsRightCount number old =
    Answered BorrowedIndices (Number number)
    (λ p before. (is_locked before ≡ true → number ≡ 0)
    × (IsUnlocked before → IsCount p IsFilled old.capacity number before)) old

-- the answer of `is_locked` is right
abbrev pub IsRightLook : Bool → View ℕ → View ℕ → Type 0
IsRightLook locked = Answered IsLocked (Truth locked) (λ p before. locked ≡ is_locked before)

-- ---- the lock

-- an acquire took no index, and the refusal is right: if for want of indices, the pass had not seen the
-- lock; if for the lock, it has seen it now
pub record WasRefused (owner : ℕ) (failure : UniqueIndexSetAcquireFailure) (old new : View ℕ)
    : Type 0 where
  pub answered : Answered (Acquire owner) (NoIndex failure)
      (RefusesRight (MayBeWorn new.seen) old.capacity failure) old new
  pub unlocked : failure ≡ failures.OutOfIndices → is_locked old.seen ≡ false
  pub locked : failure ≡ failures.IsLocked → is_locked new.seen ≡ true

module _ {T : Type 0} where
  -- what a release tells of the lock: `Locked`, in mode `LockIfLastIndex` alone, if the pass sees the
  -- lock now; `Unlocked` in that mode only if it had not seen it
  abbrev pub HasReleased : ReleaseState → ReleaseMode → (old new : View T) → Type 0
  HasReleased states.Locked mode old new = (is_locked new.seen ≡ true) × (mode ≡ LockIfLastIndex)
  HasReleased states.Unlocked mode old new = mode ≡ LockIfLastIndex → is_locked old.seen ≡ false

  -- what an answer tells of the lock: true if the pass sees it now, false only if it had not seen it
  abbrev pub FoundLock : Bool → (old new : View T) → Type 0
  FoundLock true old new = is_locked new.seen ≡ true
  FoundLock false old new = is_locked old.seen ≡ false

  -- what a state that was answered tells of the lock
  abbrev pub FoundState : ReleaseState → View T → View T → Type 0
  FoundState states.Locked = FoundLock true
  FoundState states.Unlocked = FoundLock false
