-- What holds of the machine of the unique index set, after any turns.
use Rattle.std.specs.Prelude.{◌≡◌, ℕ, ◌+◌, ◌<◌, ◌≤◌, true, false, Option, Some, None, is_some, List, slice_index, slice_index_or}
use Rattle.steps.specs.declared.ask.Ask.{Ask}
use Rattle.steps.specs.declared.indices.enums.ReleaseMode.TheVariants.{LockIfLastIndex, Default}
use Rattle.steps.specs.declared.indices.enums.ReleaseState.TheVariants as states
use Rattle.steps.specs.declared.indices.enums.UniqueIndexSetAcquireFailure.TheVariants as failures
use Rattle.steps.specs.Indices.Head.{flag_word, has_flag, says_locked}
use Rattle.model.specs.declared.event.Answer.{Answer}
use Rattle.model.specs.declared.event.Answer.TheVariants.{NoIndex, State, Number, Truth}
use Rattle.model.specs.declared.event.Event.{Event}
use Rattle.model.specs.declared.event.Event.TheVariants.{Claimed, Freed, Locked, Finished}
use Rattle.model.specs.declared.event.Start.{Start}
use Rattle.model.specs.declared.event.Start.TheVariants.{Indices}
use Rattle.model.specs.declared.families.Registry.{Registry}
use Rattle.model.specs.declared.families.Registry.TheVariants as registries
use Rattle.model.specs.declared.families.indices.IndexStart.TheVariants.{Acquire, Release, BorrowedIndices, IsLocked}
use Rattle.model.specs.declared.party.Party.{Party}
use Rattle.model.specs.Families.Indices.Bounds.{most_steps}
use Rattle.model.specs.Families.Indices.Reading.{holder_of, is_locked, tally_of, in_use}
use Rattle.model.specs.Families.Indices.Spans.{set_acts, done_by, may_stand}
use Rattle.model.specs.Parties.{party_of}
use Rattle.model.specs.Promise.{Promise}
use Rattle.model.specs.Reading.{Each}
use Rattle.model.specs.World.{Trace}

module _ {T : Type 0} where
  -- ---- holders and the lock

  -- An index of the set is claimed where it has no holder and the set is not locked, and is freed by its holder. The
  -- lock comes once, where no index has a holder.
  abbrev pub HoldsRight : ℕ → List (Event T) → Event T → Type 0
  HoldsRight capacity before (Claimed p index) =
      (index < capacity) × (holder_of index before ≡ None) × (is_locked before ≡ false)
  HoldsRight capacity before (Freed p index) = holder_of index before ≡ Some p
  HoldsRight capacity before (Locked p) =
      ((index : ℕ) → holder_of index before ≡ None) × (is_locked before ≡ false)
  HoldsRight capacity before e = Unit {0}

  -- ---- answers

  -- The number that `borrowed_indices` answers is 0 once the set is locked, and before that it is at
  -- least the number of indices held, and at most that of indices in use (held, or on their way in an
  -- acquire or a release under way).
  abbrev pub CountsRight : List (Event T) → ℕ → Type 0
  CountsRight before number =
      (is_locked before ≡ true → number ≡ 0)
      × (is_locked before ≡ false →
      ((tally_of before).held ≤ number) × (number ≤ in_use (tally_of before)))

  -- What an answer says of the set as it was at the last step of the call. An acquire fails by
  -- OutOfIndices only if, without this acquire, as many indices are in use as the set has. A release in
  -- the mode that locks answers Unlocked only if, without this release, some index is in use.
  abbrev pub AnswersRight : ℕ → List (Event T) → Event T → Type 0
  AnswersRight capacity before (Finished p (Indices Acquire) (NoIndex failures.IsLocked)) =
      is_locked before ≡ true
  AnswersRight capacity before (Finished p (Indices Acquire) (NoIndex failures.OutOfIndices)) =
      capacity + 1 ≤ in_use (tally_of before)
  AnswersRight capacity before (Finished p (Indices (Release index mode)) (State states.Locked)) =
      is_locked before ≡ true
  AnswersRight capacity before
      (Finished p (Indices (Release index LockIfLastIndex)) (State states.Unlocked)) =
      2 ≤ in_use (tally_of before)
  AnswersRight capacity before (Finished p (Indices BorrowedIndices) (Number number)) =
      CountsRight before number
  AnswersRight capacity before (Finished p (Indices IsLocked) (Truth locked)) =
      locked ≡ is_locked before
  AnswersRight capacity before e = Unit {0}

  -- ---- what the words say, and what is kept beside them

  -- The table of holders that the machine keeps, by which it admits a release, agrees with the events.
  abbrev pub KeepsHolders : Registry T → List (Event T) → Type 0
  KeepsHolders (registries.Indices holders) events =
      (index : ℕ) → slice_index_or holders index None ≡ holder_of index events
  KeepsHolders kept events = ⊥

  -- A release in mode Default never begins its loop again.
  abbrev pub GoesStraight : Start T → ℕ → Type 0
  GoesStraight (Indices (Release index Default)) backs = backs ≡ 0
  GoesStraight start backs = Unit {0}

  -- What holds of a unique index set's machine after any turns: events and answers are right, the flag of
  -- an index stands exactly if the index has a holder, and the head says whether the set is locked.
  pub record IsIndexSet (t : Trace T) : Type 0 where
    -- Indices are claimed and freed, and the set is locked, only as `HoldsRight` allows.
    pub holds : Each (HoldsRight t.world.capacity) t.events
    -- each answer is right
    pub answers : Each (AnswersRight t.world.capacity) t.events
    pub flags : (index : ℕ) → index < t.world.capacity
        → has_flag (slice_index t.world.words (flag_word t.world.capacity index)) index
        ≡ is_some (holder_of index t.events)
    pub lock : says_locked (slice_index t.world.words 0) ≡ is_locked t.events
    -- the machine keeps who holds which index
    pub holders : KeepsHolders t.world.kept t.events
    -- a release in the default mode has not turned back
    pub straight : (p : ℕ) (x : Party T) → party_of p t.world.latest ≡ Some x
        → GoesStraight x.start x.backs

  -- ---- the promise

  -- what a call that has finished with this answer has written; a call of another family has not begun
  abbrev pub wrote : ℕ → Start T → Answer T → List (Event T) → Type 0
  wrote capacity (Indices start) answer events = done_by start answer ≡ Some (set_acts events)
  wrote capacity start answer events = ⊥

  -- how many steps a call takes at most; a call of another family does not begin
  abbrev pub most : (capacity size : ℕ) → Start T → ℕ → ℕ
  most capacity size (Indices start) backs = most_steps capacity start backs
  most capacity size start backs = 0

  -- no call of the set acts
  abbrev pub ActsRight : Trace T → Option Ask → (ℕ → Type 0) → Event T → Type 0
  ActsRight old ask IsTurnOf e = ⊥

  -- what the unique index set promises of each run
  abbrev pub promise : Promise T
  promise =
      record {
        may_stand = may_stand;
        wrote = wrote;
        most_steps = most;
        acts_right = ActsRight;
        tells = λ old turn new. Unit {0};
        holds = IsIndexSet;
      }
