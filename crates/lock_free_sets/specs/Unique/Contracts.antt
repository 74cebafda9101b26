-- What the calls on unique index sets add to the history, and what they answer.
use Rattle.std.specs.Prelude.{◌≡◌, ℕ, ◌<◌, Bool, false, None, Ok, Err, List, [], ◌∷◌, ◌++◌}
use Rattle.steps.specs.Indices.Unique.{Acquired}
use Rattle.steps.specs.declared.indices.enums.ReleaseMode.TheVariants as modes
use Rattle.steps.specs.declared.indices.enums.ReleaseState.{ReleaseState}
use Rattle.steps.specs.declared.indices.enums.UniqueIndexSetAcquireFailure.{UniqueIndexSetAcquireFailure}
use Rattle.steps.specs.declared.indices.enums.UniqueIndexSetAcquireFailure.TheVariants as failures
use Rattle.model.specs.declared.event.Answer.{Answer}
use Rattle.model.specs.declared.event.Answer.TheVariants.{NoIndex, State, Number, Truth}
use Rattle.model.specs.declared.event.Event.{Event}
use Rattle.model.specs.declared.event.Event.TheVariants.{Claimed, Freed, Finished}
use Rattle.model.specs.declared.event.Start.TheVariants.{Indices}
use Rattle.model.specs.declared.families.indices.IndexStart.{IndexStart}
use Rattle.model.specs.declared.families.indices.IndexStart.TheVariants.{Acquire, Release, BorrowedIndices, IsLocked}
use Rattle.model.specs.Families.Indices.Calls.{acquire_answer}
use Rattle.model.specs.Families.Indices.Promises.{AnswersRight}
use Rattle.model.specs.Families.Indices.Reading.{holder_of, is_locked}
use Rattle.history.specs.declared.view.View.{View}
use Rattle.history.specs.History.{IsBeginning}
use Rattle.history.specs.Held.{Holds}
use Rattle.history_indices.specs.Indices.{claimed_by, given_by}
use Rattle.lock_free_sets.specs.Driven.{HasMade}
use Rattle.lock_free_sets.specs.Unique.Held.{HoldsNothing, HoldsAll}

-- an acquire is a call of the history, which claims the index that it answers, if any
abbrev pub HasTaken : Acquired → View ℕ → View ℕ → Type 0
HasTaken answer = HasMade (Indices Acquire) (acquire_answer answer) (λ by. claimed_by by answer)

-- a release in mode `Default` is a call of the history, which frees the index
abbrev pub HasGiven : ℕ → ReleaseState → View ℕ → View ℕ → Type 0
HasGiven index state =
    HasMade (Indices (Release index modes.Default)) (State state) (λ by. Freed by index ∷ [])

-- a release in mode `LockIfLastIndex` is a call of the history, which frees the index, and locks the
-- set if it answers `Locked`
abbrev pub HasGivenOrLocked : ℕ → ReleaseState → View ℕ → View ℕ → Type 0
HasGivenOrLocked index state =
    HasMade (Indices (Release index modes.LockIfLastIndex)) (State state) (λ by. given_by by index state)

-- a call of `borrowed_indices` with this answer, which wrote nothing
abbrev pub HasCounted : ℕ → View ℕ → View ℕ → Type 0
HasCounted number = HasMade (Indices BorrowedIndices) (Number number) (λ by. [])

-- a call of `is_locked` with this answer, which wrote nothing
abbrev pub HasLooked : Bool → View ℕ → View ℕ → Type 0
HasLooked locked = HasMade (Indices IsLocked) (Truth locked) (λ by. [])

-- The call claimed the index, and at its claim the index had no holder and the set was not locked.
pub record WasFree (index : ℕ) (old new : View ℕ) : Type 0 where
  -- the party, and the history before the claim and after it
  pub by : ℕ
  pub before : List (Event ℕ)
  pub after : List (Event ℕ)
  pub is : new.seen ≡ before ++ Claimed by index ∷ after
  pub since : IsBeginning old.seen before
  pub within : index < new.capacity
  pub free : holder_of index before ≡ None
  pub unlocked : is_locked before ≡ false

-- The last event that the pass has seen is the end of this call. At the last step of the call its
-- answer was right (`AnswersRight`): an acquire, say, fails by `OutOfIndices` only where without it as
-- many indices as the capacity are in use.
pub record Answered (start : IndexStart) (answer : Answer ℕ) (old new : View ℕ) : Type 0 where
  pub by : ℕ
  pub before : List (Event ℕ)
  pub is : new.seen ≡ before ++ Finished by (Indices start) answer ∷ []
  pub since : IsBeginning old.seen before
  pub right : AnswersRight new.capacity before (Finished by (Indices start) answer)

-- an acquire that took this index: it had no holder, and its pass holds it now
pub record HasAcquired (index : ℕ) (old new : View ℕ) : Type 0 where
  pub taken : HasTaken (Ok index) old new
  pub free : WasFree index old new
  pub holds : Holds index new.made

-- An acquire that took no index. Either none was left, and the pass had not seen the lock; then a pass
-- with the whole share holds all indices. Or the set was locked, and the pass holds none.
pub record WasRefused (failure : UniqueIndexSetAcquireFailure) (old new : View ℕ) : Type 0 where
  pub taken : HasTaken (Err failure) old new
  pub answered : Answered Acquire (NoIndex failure) old new
  pub unlocked : failure ≡ failures.OutOfIndices → is_locked old.seen ≡ false
  pub whole : failure ≡ failures.OutOfIndices → HoldsAll old.capacity new
  pub nothing : failure ≡ failures.IsLocked → HoldsNothing new.made
