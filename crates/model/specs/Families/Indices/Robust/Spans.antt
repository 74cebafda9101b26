-- What a call of the robust index set writes between its begin and its end.
use Rattle.std.specs.Prelude.{◌≡◌, ◌⊎◌, ℕ, ◌<◌, List, [], ◌∷◌}
use Rattle.std.specs.List.{AllByRecursion}
use Rattle.steps.specs.declared.indices.enums.ReleaseMode.TheVariants.{LockIfLastIndex}
use Rattle.steps.specs.declared.indices.enums.ReleaseState.TheVariants as states
use Rattle.steps.specs.declared.indices.enums.UniqueIndexSetAcquireFailure.TheVariants as failures
use Rattle.model.specs.declared.event.Answer.{Answer}
use Rattle.model.specs.declared.event.Answer.TheVariants.{Index, NoIndex, State, NotOwned, Number, Truth}
use Rattle.model.specs.declared.event.Event.{Event}
use Rattle.model.specs.declared.event.Event.TheVariants.{Filled, Granted, FreedOf, Asked, Told, Locked}
use Rattle.model.specs.declared.event.Start.TheVariants.{Robust}
use Rattle.model.specs.declared.families.indices.robust.RobustStart.{RobustStart}
use Rattle.model.specs.declared.families.indices.robust.RobustStart.TheVariants.{Acquire, Release, Find, Recover, BorrowedIndices, IsLocked}
use Rattle.model.specs.Families.Indices.Robust.Reading.{SetAct, Fills, Grants, Frees, Asks, Yes, Locks, set_acts, IsLatest, asked_in}
use Rattle.model.specs.Reading.{Span, Open}

-- The last thing that the call has done to the set is to free an index.
pub record HasJustFreed (all : List SetAct) : Type 0 where
  pub index : ℕ
  pub owner : ℕ
  pub latest : IsLatest (Frees index owner) all

module _ {T : Type 0} where
  -- Where an event may stand. An acquire fills an index for its owner, and then is granted it. A release frees its
  -- index first of all. A recovery asks about indices ascending, may be told to free the index that it asked about, and
  -- then may free it. Who may lock does so right after it has freed, in mode LockIfLastIndex alone.
  abbrev pub may_stand : Event T → Span T → Type 0
  may_stand (Filled p index owner) (Open (Robust (Acquire o)) wrote) =
      (owner ≡ o) × (set_acts wrote ≡ [])
  may_stand (Granted p index owner) (Open (Robust (Acquire o)) wrote) =
      (owner ≡ o) × (set_acts wrote ≡ Fills index owner ∷ [])
  may_stand (FreedOf p index owner) (Open (Robust (Release i o mode)) wrote) =
      (index ≡ i) × (owner ≡ o) × (set_acts wrote ≡ [])
  may_stand (FreedOf p index owner) (Open (Robust (Recover mode)) wrote) =
      IsLatest (Yes index owner) (set_acts wrote)
  may_stand (Asked p index owner) (Open (Robust (Recover mode)) wrote) =
      AllByRecursion (λ i. i < index) (asked_in (set_acts wrote))
  may_stand (Told p index owner) (Open (Robust (Recover mode)) wrote) =
      IsLatest (Asks index owner) (set_acts wrote)
  may_stand (Locked p) (Open (Robust (Release i o LockIfLastIndex)) wrote) =
      set_acts wrote ≡ Frees i o ∷ []
  may_stand (Locked p) (Open (Robust (Recover LockIfLastIndex)) wrote) = HasJustFreed (set_acts wrote)
  may_stand e span = ⊥

-- An acquire that answers IsLocked may have filled one index, which it was not granted since the set was
-- locked meanwhile.
pub record FilledLate (owner : ℕ) (all : List SetAct) : Type 0 where
  pub index : ℕ
  pub is : all ≡ Fills index owner ∷ []

module _ {T : Type 0} where
  -- What a finished call of a robust set has done to it, by its answer. A call gives no
  -- answer but those listed.
  abbrev pub HasDone : RobustStart → Answer T → List SetAct → Type 0
  HasDone (Acquire owner) (Index index) all =
      all ≡ Fills index owner ∷ Grants index owner ∷ []
  HasDone (Acquire owner) (NoIndex failures.IsLocked) all = (all ≡ []) ⊎ FilledLate owner all
  HasDone (Acquire owner) (NoIndex failures.OutOfIndices) all = all ≡ []
  HasDone (Release index owner mode) (State states.Unlocked) all = all ≡ Frees index owner ∷ []
  HasDone (Release index owner LockIfLastIndex) (State states.Locked) all =
      (all ≡ Frees index owner ∷ []) ⊎ (all ≡ Frees index owner ∷ Locks ∷ [])
  HasDone (Release index owner mode) (NotOwned failure) all = all ≡ []
  HasDone (Find owner) (Number number) all = all ≡ []
  HasDone (Recover mode) (State state) all = Unit {0}
  HasDone BorrowedIndices (Number number) all = all ≡ []
  HasDone IsLocked (Truth locked) all = all ≡ []
  HasDone start answer all = ⊥
