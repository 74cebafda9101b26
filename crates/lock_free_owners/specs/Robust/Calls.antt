-- What each answer of a call on a robust unique index set means.
use Rattle.std.specs.Prelude.{◌≡◌, ℕ, ◌<◌, ◌≤◌, Bool, true, Ok, Err}
use Rattle.steps.specs.declared.indices.enums.ReleaseMode.{ReleaseMode}
use Rattle.steps.specs.declared.indices.enums.ReleaseState.{ReleaseState}
use Rattle.steps.specs.declared.indices.enums.RobustUniqueIndexSetReleaseError.{RobustUniqueIndexSetReleaseError}
use Rattle.steps.specs.declared.indices.enums.UniqueIndexSetAcquireFailure.{UniqueIndexSetAcquireFailure}
use Rattle.model.specs.Families.Indices.Reading.{is_locked}
use Rattle.history.specs.declared.view.View.{View}
use Rattle.lock_free_owners.specs.Robust.Contracts.{HasTaken, HasGiven, HasRecovered, HasCounted, HasLooked, WasFilled, WasGranted}
use Rattle.lock_free_owners.specs.Robust.Contracts.{WasFreed, WasRefused, HasReleased, FoundLock, FoundState}
use Rattle.lock_free_owners.specs.Robust.Contracts.{IsRightRelease, IsRightRecovery, IsRightCount, IsRightLook}

-- ---- acquire

-- an acquire that took an index, which had no owner and was granted to this one
pub record AcquireDone (capacity owner index : ℕ) (old new : View ℕ) : Type 0 where
  pub taken : HasTaken owner (Ok index) old new
  pub within : index < capacity
  pub filled : WasFilled index owner old new
  pub granted : WasGranted index owner old new

-- an acquire that took no index
pub record AcquireRefused (owner : ℕ) (failure : UniqueIndexSetAcquireFailure) (old new : View ℕ) : Type 0 where
  pub taken : HasTaken owner (Err failure) old new
  pub refused : WasRefused owner failure old new

-- ---- release

-- a release that freed the index
pub record ReleaseDone (index owner : ℕ) (mode : ReleaseMode) (state : ReleaseState) (old new : View ℕ) : Type 0 where
  pub given : HasGiven (record { index = index; owner = owner; mode = mode }) (Ok state) old new
  pub freed : WasFreed index owner old new
  pub answered : IsRightRelease index owner mode (Ok state) old new
  pub released : HasReleased state mode old new

-- a release that freed no index
pub record ReleaseRefused (index owner : ℕ) (mode : ReleaseMode) (failure : RobustUniqueIndexSetReleaseError)
    (old new : View ℕ) : Type 0 where
  pub given : HasGiven (record { index = index; owner = owner; mode = mode }) (Err failure) old new
  pub answered : IsRightRelease index owner mode (Err failure) old new

-- ---- recover

-- a recovery: what became of its closures and of the indices, that its answer is right, and what it
-- tells of the lock
pub record RecoverDone {F S : Type 0} (step : F → ℕ → ℕ → Bool → F → Type 0) (tell : S → ℕ → ℕ → S → Type 0)
    (mode : ReleaseMode) (state : ReleaseState) (f : F) (s : S) (f_last : F) (s_last : S) (old new : View ℕ) : Type 0 where
  pub recovered : HasRecovered step tell mode state f s f_last s_last old new
  pub answered : IsRightRecovery mode state old new
  pub lock : FoundState state old new

-- ---- `borrowed_indices` and `is_locked`

-- a count of the indices that have an owner: it is right, at most the capacity, and 0 where the pass
-- had seen the lock
pub record BorrowedDone (capacity number : ℕ) (old new : View ℕ) : Type 0 where
  pub counted : HasCounted number old new
  pub answered : IsRightCount number old new
  pub most : number ≤ capacity
  pub lock : is_locked old.seen ≡ true → number ≡ 0

-- a look at the lock, whose answer is right
pub record IsLockedDone (locked : Bool) (old new : View ℕ) : Type 0 where
  pub looked : HasLooked locked old new
  pub answered : IsRightLook locked old new
  pub lock : FoundLock locked old new
