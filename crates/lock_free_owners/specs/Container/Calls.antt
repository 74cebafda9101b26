-- What each call on a container keeps, and what each of its answers means. T is the type of its values.
use Rattle.std.specs.Prelude.{◌≡◌, ℕ, ◌≤◌, Bool, true, None, Ok, Err}
use Rattle.steps.specs.declared.words.Words.{Ghosts}
use Rattle.steps.specs.declared.container.add.Owned.{Owned}
use Rattle.steps.specs.declared.container.enums.ContainerAddFailure.{ContainerAddFailure}
use Rattle.steps.specs.declared.container.enums.ContainerRemoveError.{ContainerRemoveError}
use Rattle.steps.specs.declared.container.handle.ContainerHandle.{ContainerHandle}
use Rattle.steps.specs.declared.container.recover.DeadOwner.{DeadOwner}
use Rattle.steps.specs.declared.container.replace.Replacement.{Replacement}
use Rattle.steps.specs.declared.container.state.ContainerState.{ContainerState}
use Rattle.steps.specs.declared.indices.enums.ReleaseMode.{ReleaseMode}
use Rattle.steps.specs.declared.indices.enums.ReleaseState.{ReleaseState}
use Rattle.steps.specs.declared.indices.robust.release.GiveBack.{GiveBack}
use Rattle.model.specs.Families.Indices.Reading.{is_locked}
use Rattle.history.specs.declared.view.View.{View}
use Rattle.history_owners.specs.ContainerLooks.{KeepsState, ShowsCopied}
use Rattle.history.specs.Passes.{Goes}
use Rattle.lock_free_owners.specs.declared.mpmc.container.Container.{Container}
use Rattle.lock_free_owners.specs.declared.mpmc.container.Pass.{Pass}
use Rattle.lock_free_owners.specs.Robust.Contracts.{WasFilled, WasGranted, WasFreed, HasReleased, FoundLock, FoundState}
use Rattle.lock_free_owners.specs.Container.Contracts.{HasAdded, HasRemoved, HasReplaced, HasCounted, HasTested, HasLooked}
use Rattle.lock_free_owners.specs.Container.Contracts.{HasGotState, HasUpdatedState, HasMet, WasNotAdded}
use Rattle.lock_free_owners.specs.Container.Contracts.{IsRightRemove, IsRightReplace, IsRightLength, IsRightTest, IsRightLook, IsRightRecovery}
use Rattle.lock_free_owners.specs.Container.RecoverContract.{HasRecovered}
use Rattle.lock_free_owners.specs.Container.Steps.{FewAside}
use Rattle.lock_free_owners.specs.Container.Names.{view, container_of, IsHandleFor, IsLatestState, IsOwn, IsStateOf, SamePass}

module _ {T : Type 0} {words : Ghosts T} where
  -- ---- what a call keeps

  -- what each call but a find and those of states keeps of a pass: its container, a view that goes on,
  -- and the state that it has; no call is under way
  pub record KeepsPass (old new : Pass T words) : Type 0 where
    pub container : container_of new ≡ container_of old
    pub idle : (view new).going ≡ None
    pub goes : Goes (view old) (view new)
    pub aside : FewAside (view old) (view new)
    pub keeps : KeepsState (view old) (view new)

  -- what a remove or a replace keeps of a pass: if the handle is of this container, what each call
  -- keeps; with a handle of another one the view stays
  pub record KeepsPassIf (own : Type 0) (old new : Pass T words) : Type 0 where
    pub container : container_of new ≡ container_of old
    pub keeps : own → KeepsPass old new
    pub foreign : (own → ⊥) → view new ≡ view old

  -- what a find keeps of a pass: its container, a view that goes on, and the state that it has; its
  -- call may rest at its end
  pub record FindKeepsPass (old new : Pass T words) : Type 0 where
    pub container : container_of new ≡ container_of old
    pub goes : Goes (view old) (view new)
    pub aside : FewAside (view old) (view new)
    pub keeps : KeepsState (view old) (view new)

  -- an update leaves the pass its container, and the state is of the container
  pub record UpdateKeeps (s : Container T) (old new : Pass T words) (now : ContainerState T) : Type 0 where
    pub container : container_of new ≡ container_of old
    pub state : IsStateOf s now

  -- ---- states

  -- a state was got, and is the pass's from now on
  pub record GetStateDone (s : Container T) (now : ContainerState T) (old new : Pass T words) : Type 0 where
    pub same : SamePass old new
    pub got : HasGotState now (view old) (view new)
    pub latest : IsLatestState new now
    pub shows : ShowsCopied now.shown (view new)
    pub state : IsStateOf s now

  -- the state that the pass has was brought up to date, and is still the pass's
  pub record UpdateDone (changed : Bool) (now : ContainerState T) (old new : Pass T words) : Type 0 where
    pub same : SamePass old new
    pub updated : HasUpdatedState changed (view old) (view new)
    pub met : HasMet changed (view old) (view new)
    pub latest : IsLatestState new now
    pub shows : ShowsCopied now.shown (view new)

-- a handle and a mode, as a remove of the model takes them
abbrev pub given_back : ContainerHandle → ReleaseMode → GiveBack
given_back key mode = record { index = key.index; owner = key.owner; mode = mode }

-- a handle and a value, as a replace of the model takes them
abbrev pub put_at : {T : Type 0} → ContainerHandle → T → Replacement T
put_at key value = record { index = key.index; owner = key.owner; value = value }

module _ {T : Type 0} where
  -- ---- add

  -- an add that placed its value, at an index that had no owner and was granted to this one
  pub record AddDone (s : Container T) (given : Owned T) (key : ContainerHandle) (old new : View T) : Type 0 where
    pub handle : IsHandleFor s given.owner key
    pub added : HasAdded given (Ok key.index) old new
    pub filled : WasFilled key.index given.owner old new
    pub granted : WasGranted key.index given.owner old new

  -- an add that placed no value
  pub record AddRefused (given : Owned T) (failure : ContainerAddFailure) (old new : View T) : Type 0 where
    pub added : HasAdded given (Err failure) old new
    pub refused : WasNotAdded given.value given.owner failure old new

  -- ---- remove

  -- a remove that freed the index
  pub record RemoveDone (s : Container T) (key : ContainerHandle) (mode : ReleaseMode) (state : ReleaseState) (old new : View T)
      : Type 0 where
    pub own : IsOwn s key
    pub removed : HasRemoved (given_back key mode) (Ok state) old new
    pub freed : WasFreed key.index key.owner old new
    pub answered : IsRightRemove (given_back key mode) (Ok state) old new
    pub released : HasReleased state mode old new

  -- a remove that freed no index; with a handle of another container it is no call of the history
  pub record RemoveRefused (s : Container T) (key : ContainerHandle) (mode : ReleaseMode) (failure : ContainerRemoveError)
      (old new : View T) : Type 0 where
    pub removed : IsOwn s key → HasRemoved (given_back key mode) (Err failure) old new
    pub answered : IsOwn s key → IsRightRemove (given_back key mode) (Err failure) old new

  -- ---- replace

  -- a replace that placed its value
  pub record ReplaceDone (s : Container T) (key : ContainerHandle) (value : T) (old new : View T) : Type 0 where
    pub own : IsOwn s key
    pub replaced : HasReplaced (put_at key value) (Ok tt) old new
    pub answered : IsRightReplace (put_at key value) (Ok tt) old new

  -- a replace that placed no value; with a handle of another container it is no call of the history
  pub record ReplaceRefused (s : Container T) (key : ContainerHandle) (value : T) (failure : ContainerRemoveError)
      (old new : View T) : Type 0 where
    pub replaced : IsOwn s key → HasReplaced (put_at key value) (Err failure) old new
    pub answered : IsOwn s key → IsRightReplace (put_at key value) (Err failure) old new

  -- ---- lengths, the lock

  -- a count of the indices that have an owner: it is right, at most the capacity, and 0 where the pass
  -- had seen the lock
  pub record LenDone (capacity number : ℕ) (old new : View T) : Type 0 where
    pub counted : HasCounted number old new
    pub answered : IsRightLength number old new
    pub most : number ≤ capacity
    pub lock : is_locked old.seen ≡ true → number ≡ 0

  -- the answer of `is_empty` is right, and true where the pass had seen the lock
  pub record IsEmptyDone (empty : Bool) (old new : View T) : Type 0 where
    pub tested : HasTested empty old new
    pub answered : IsRightTest empty old new
    pub lock : is_locked old.seen ≡ true → empty ≡ true

  -- a look at the lock, whose answer is right
  pub record IsLockedDone (locked : Bool) (old new : View T) : Type 0 where
    pub looked : HasLooked locked old new
    pub answered : IsRightLook locked old new
    pub lock : FoundLock locked old new

  -- ---- recover

  -- a recovery: what became of its closure and of the indices, that its answer is right, and what it
  -- tells of the lock
  pub record RecoverDone {F : Type 0} (step : F → T → Bool → F → Type 0) (given : DeadOwner) (state : ReleaseState)
      (capacity : ℕ) (f last : F) (old new : View T) : Type 0 where
    pub recovered : HasRecovered step given state capacity f last old new
    pub answered : IsRightRecovery given state old new
    pub lock : FoundState state old new
