-- What each answer of a call on a unique index set means.
use Rattle.std.specs.Prelude.{◌≡◌, ◌<◌, ◌≤◌, ℕ, Bool, false, List, length, IsTrue, IsFalse}
use Rattle.steps.specs.declared.indices.enums.ReleaseMode.TheVariants as modes
use Rattle.steps.specs.declared.indices.enums.ReleaseState.{ReleaseState}
use Rattle.steps.specs.declared.indices.enums.ReleaseState.TheVariants.{Locked, Unlocked}
use Rattle.model.specs.declared.event.Answer.TheVariants.{State, Number, Truth}
use Rattle.model.specs.declared.families.indices.IndexStart.TheVariants as starts
use Rattle.model.specs.Families.Indices.Reading.{is_locked}
use Rattle.history.specs.declared.view.View.{View}
use Rattle.lock_free_sets.specs.Unique.Held.{HeldBy, HoldsNothing, HoldsAll, HoldsSome}
use Rattle.lock_free_sets.specs.Unique.Contracts.{HasAcquired, HasGiven, HasGivenOrLocked, HasCounted, HasLooked, Answered}

-- an acquire that took an index
pub record AcquireDone (capacity index : ℕ) (old new : View ℕ) : Type 0 where
  pub acquired : HasAcquired index old new
  pub within : index < capacity

-- a release in mode `Default`, which always answers `Unlocked`
pub record ReleaseDone (index : ℕ) (state : ReleaseState) (old new : View ℕ) : Type 0 where
  pub given : HasGiven index state old new
  pub unlocked : state ≡ Unlocked

-- A release in the mode that locks. If it answers `Locked`, the pass holds nothing; if `Unlocked`, a
-- pass with the whole share holds some index.
pub record ReleaseOrLockDone (index : ℕ) (state : ReleaseState) (old new : View ℕ) : Type 0 where
  pub given : HasGivenOrLocked index state old new
  pub answered : Answered (starts.Release index modes.LockIfLastIndex) (State state) old new
  pub nothing : state ≡ Locked → HoldsNothing new.made
  pub whole : state ≡ Unlocked → HoldsSome new

-- a count of the borrowed indices: at least what the pass holds, at most the capacity, and with the
-- whole share what it holds
pub record BorrowedDone (capacity number : ℕ) (old new : View ℕ) : Type 0 where
  pub counted : HasCounted number old new
  pub answered : Answered starts.BorrowedIndices (Number number) old new
  pub least : (is : List ℕ) → HeldBy is new.made → length is ≤ number
  pub most : number ≤ capacity
  pub whole : HoldsAll number new

-- A look at the lock. If it is locked, the pass holds nothing; if it is not, the pass had not seen the lock.
pub record IsLockedDone (locked : Bool) (old new : View ℕ) : Type 0 where
  pub looked : HasLooked locked old new
  pub answered : Answered starts.IsLocked (Truth locked) old new
  pub nothing : IsTrue locked → HoldsNothing new.made
  pub unlocked : IsFalse locked → is_locked old.seen ≡ false
