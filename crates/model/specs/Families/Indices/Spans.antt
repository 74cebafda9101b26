-- What a call of the unique index set writes between its begin and its end.
use Rattle.std.specs.Prelude.{◌≡◌, ℕ, ◌+◌, Option, Some, None, List, [], ◌∷◌, ◌++◌, fold}
use Rattle.steps.specs.declared.indices.enums.ReleaseMode.TheVariants.{LockIfLastIndex}
use Rattle.steps.specs.declared.indices.enums.ReleaseState.TheVariants as states
use Rattle.model.specs.declared.event.Answer.{Answer}
use Rattle.model.specs.declared.event.Answer.TheVariants.{Index, NoIndex, State, Number, Truth}
use Rattle.model.specs.declared.event.Event.{Event}
use Rattle.model.specs.declared.event.Event.TheVariants.{Claimed, Freed, Locked}
use Rattle.model.specs.declared.event.Start.TheVariants.{Indices}
use Rattle.model.specs.declared.families.indices.IndexStart.{IndexStart}
use Rattle.model.specs.declared.families.indices.IndexStart.TheVariants.{Acquire, Release, BorrowedIndices, IsLocked}
use Rattle.model.specs.Reading.{Span, Open}

-- What a call has done to the set: the indices that it has claimed and freed, and how often
-- it has locked the set.
pub record SetActs : Type 0 where
  pub claimed : List ℕ
  pub freed : List ℕ
  pub locks : ℕ

-- a call that has done nothing
abbrev pub nothing : SetActs
nothing = record { claimed = []; freed = []; locks = 0 }

-- a call that has claimed this index
abbrev pub claimed : ℕ → SetActs
claimed index = record nothing { claimed = index ∷ [] }

-- a call that has freed this index
abbrev pub freed : ℕ → SetActs
freed index = record nothing { freed = index ∷ [] }

-- a call that has freed this index and locked the set
abbrev pub freed_and_locked : ℕ → SetActs
freed_and_locked index = record (freed index) { locks = 1 }

module _ {T : Type 0} where
  -- what a call has done, with one event more
  abbrev pub set_act : SetActs → Event T → SetActs
  set_act d (Claimed p index) = record d { claimed = d.claimed ++ index ∷ [] }
  set_act d (Freed p index) = record d { freed = d.freed ++ index ∷ [] }
  set_act d (Locked p) = record d { locks = d.locks + 1 }
  set_act d e = d

  -- what a call has done that has written these events
  abbrev pub set_acts : List (Event T) → SetActs
  set_acts events = fold set_act nothing events

  -- What a finished call of the unique index set has done to it, by its answer, or None if no such call
  -- gives this answer.
  abbrev pub done_by : IndexStart → Answer T → Option SetActs
  done_by Acquire (Index index) = Some (claimed index)
  done_by Acquire (NoIndex failure) = Some nothing
  done_by (Release index mode) (State states.Unlocked) = Some (freed index)
  done_by (Release index LockIfLastIndex) (State states.Locked) =
      Some (freed_and_locked index)
  done_by BorrowedIndices (Number number) = Some nothing
  done_by IsLocked (Truth locked) = Some nothing
  done_by start answer = None

  -- where an event may stand: an acquire claims, a release frees its index first of all, and one in mode
  -- LockIfLastIndex may lock after that
  abbrev pub may_stand : Event T → Span T → Type 0
  may_stand (Claimed p index) (Open (Indices Acquire) wrote) = set_acts wrote ≡ nothing
  may_stand (Freed p index) (Open (Indices (Release other mode)) wrote) =
      (index ≡ other) × (set_acts wrote ≡ nothing)
  may_stand (Locked p) (Open (Indices (Release index LockIfLastIndex)) wrote) =
      set_acts wrote ≡ freed index
  may_stand e span = ⊥
