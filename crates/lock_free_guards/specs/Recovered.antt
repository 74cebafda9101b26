-- What a recovery of the indices of one owner has done, and what it leaves.
use Rattle.std.specs.Prelude.{◌≡◌, ◌≢◌, ℕ, ◌==◌, true, Some, List, [], All}
use Rattle.steps.specs.declared.indices.enums.ReleaseMode.{ReleaseMode}
use Rattle.steps.specs.declared.indices.enums.ReleaseState.{ReleaseState}
use Rattle.steps.specs.declared.indices.enums.ReleaseState.TheVariants.{Locked, Unlocked}
use Rattle.model.specs.declared.event.Answer.TheVariants.{State}
use Rattle.model.specs.declared.event.Event.{Event}
use Rattle.model.specs.declared.event.Start.TheVariants.{Robust}
use Rattle.model.specs.declared.families.indices.robust.RobustStart.TheVariants.{Recover}
use Rattle.model.specs.Families.Indices.Reading.{is_locked}
use Rattle.model.specs.Families.Indices.Robust.Promises.{IsUnlocked, HeldThroughout, StillToFree}
use Rattle.model.specs.Families.Indices.Robust.Reading.{Frees, Yes, filled_of, set_acts_of, IsOneOf}
use Rattle.laws_robust.specs.Gone.{IsHonest}
use Rattle.history.specs.declared.view.View.{View}
use Rattle.history.specs.History.{Called}
use Rattle.history_owners.specs.Robust.{Visit, AreVisits, wrote_by}
use Rattle.lock_free_owners.specs.Robust.Callable.{was_told}
use Rattle.lock_free_owners.specs.Robust.Contracts.{Answered}

-- at this visit the first closure said yes just if this owner had the index
abbrev pub IsToldFor : ℕ → Visit → Type 0
IsToldFor owner v = was_told v.came ≡ (v.owner == owner)

-- The recovery of one owner is one call of the history. At each of its visits it was told to free the
-- index just if this owner had it.
pub record HasRecoveredOwner (owner : ℕ) (mode : ReleaseMode) (state : ReleaseState) (old new : View ℕ) : Type 0 where
  -- the party that makes the call, and the indices that it came to
  pub by : ℕ
  pub mine : new.party ≡ Some by
  pub visits : List Visit
  -- the visits are of ascending indices
  pub ascend : AreVisits mode old.capacity visits
  -- it was told to free those that this owner had, and no others
  pub told : All (IsToldFor owner) visits
  pub called : Called by (Robust (Recover mode)) (State state) (wrote_by by visits) old new
  -- a recovery that begins where the lock was seen comes to no index
  pub nothing : is_locked old.seen ≡ true → visits ≡ []

-- The recovery was told to free each index that was this owner's through the whole call, or until the call
-- freed it. If nobody acts for an owner who is gone, it has freed each of these, and none is his by now.
pub record LeavesNone (owner p : ℕ) (events : List (Event ℕ)) : Type 0 where
  pub told : (index : ℕ) → HeldThroughout p (StillToFree p owner index) events → IsOneOf (Yes index owner) (set_acts_of p events)
  pub freed : IsHonest events → (index : ℕ) → HeldThroughout p (StillToFree p owner index) events
      → IsOneOf (Frees index owner) (set_acts_of p events)
  pub gone : IsHonest events → (index : ℕ) → HeldThroughout p (StillToFree p owner index) events
      → filled_of index events ≢ Some owner

-- What the answer says. `Locked`: the set was locked. `Unlocked`: it was not, and none of the indices
-- that were the owner's through the call is left to him.
abbrev pub RecoversOwner : ℕ → ReleaseState → ℕ → List (Event ℕ) → Type 0
RecoversOwner owner Locked p before = is_locked before ≡ true
RecoversOwner owner Unlocked p before = IsUnlocked before × LeavesNone owner p before

-- a recovery of this owner has ended in this mode with this state, and did what it answers
abbrev pub IsRightOwnerRecovery : ℕ → ReleaseMode → ReleaseState → View ℕ → View ℕ → Type 0
IsRightOwnerRecovery owner mode state = Answered (Recover mode) (State state) (RecoversOwner owner state)
