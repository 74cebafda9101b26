-- What holds of the machine of the robust index set, after any turns.
use Rattle.std.specs.Prelude.{◌≡◌, ◌≢◌, ◌⊎◌, ℕ, zero, suc, ◌+◌, ◌<◌, ◌≤◌, ◌==◌, Bool, true, false, Option, Some, None}
use Rattle.std.specs.Prelude.{is_some, List, [], ◌∷◌, ◌++◌, if◌then◌else◌, slice_index}
use Rattle.std.specs.List.{AllByRecursion}
use Rattle.steps.specs.declared.ask.Ask.{Ask}
use Rattle.steps.specs.declared.ask.Question.TheVariants as questions
use Rattle.steps.specs.declared.ask.Want.{Want}
use Rattle.steps.specs.declared.ask.Want.TheVariants as wants
use Rattle.steps.specs.declared.indices.enums.ReleaseMode.{ReleaseMode}
use Rattle.steps.specs.declared.indices.enums.ReleaseMode.TheVariants.{LockIfLastIndex}
use Rattle.steps.specs.declared.indices.enums.ReleaseState.TheVariants as states
use Rattle.steps.specs.declared.indices.enums.UniqueIndexSetAcquireFailure.TheVariants as failures
use Rattle.steps.specs.Indices.Robust.Parts.{cell_word, empty, locked}
use Rattle.model.specs.declared.event.Answer.{Answer}
use Rattle.model.specs.declared.event.Answer.TheVariants.{NoIndex, State, NotOwned, Number, Truth}
use Rattle.model.specs.declared.event.Event.{Event}
use Rattle.model.specs.declared.event.Event.TheVariants.{Filled, Granted, FreedOf, Asked, Told, Locked, Died, Finished}
use Rattle.model.specs.declared.event.Start.{Start}
use Rattle.model.specs.declared.event.Start.TheVariants.{Robust, Container}
use Rattle.model.specs.declared.families.Flight.{Flight}
use Rattle.model.specs.declared.families.Registry.{Registry}
use Rattle.model.specs.declared.families.Registry.TheVariants as registries
use Rattle.model.specs.declared.families.container.ContainerStart.TheVariants.{Remove}
use Rattle.model.specs.declared.families.indices.robust.RobustStart.TheVariants.{Acquire, Release, Find, Recover, BorrowedIndices, IsLocked}
use Rattle.model.specs.declared.turn.Turn.{Turn}
use Rattle.model.specs.declared.turn.Turn.TheVariants.{Decide}
use Rattle.model.specs.Coding.{Coding}
use Rattle.model.specs.Families.{want_of}
use Rattle.model.specs.Families.Indices.Reading.{is_locked}
use Rattle.model.specs.Families.Indices.Robust.Bounds.{most_steps}
use Rattle.model.specs.Families.Indices.Robust.Dead.{has_died}
use Rattle.model.specs.Families.Indices.Robust.Reading.{filled_of, holder_of, settled_of, is_dead, Frees, Asks, Yes, set_acts, set_acts_of, IsOneOf}
use Rattle.model.specs.Families.Indices.Robust.Spans.{may_stand, HasDone}
use Rattle.model.specs.Moments.{BeginsNone, HeldSometime, SinceBegin}
use Rattle.model.specs.Promise.{Promise}
use Rattle.model.specs.Reading.{Each, Span, Open, span_of}
use Rattle.model.specs.Shape.{IsOpenFor}
use Rattle.model.specs.World.{Trace, flight_in}

-- how many numbers below the bound are chosen
abbrev pub count_below : (ℕ → Bool) → ℕ → ℕ
count_below chosen zero = 0
count_below chosen (suc n) = (if chosen n then 1 else 0) + count_below chosen n

-- the index that a call asks about, if it asks so
abbrev pub asked_by : Want (Unit {0}) → Option ℕ
asked_by (wants.Question (questions.Index index)) = Some index
asked_by want = None

-- the index that a call asks about, with its owner, if it asks so
abbrev pub owned_by : Want (Unit {0}) → Option (ℕ × ℕ)
owned_by (wants.Question (questions.Owned owner index)) =
    Some (index, owner)
owned_by want = None

-- What the cell of an index holds: the owner that fills the index, or `empty` where there is none.
abbrev pub cell_of : Option ℕ → ℕ
cell_of None = empty
cell_of (Some owner) = owner

module _ {T : Type 0} where
  -- ---- moments of a call

  -- the index is filled for some owner
  abbrev pub IsFilled : ℕ → List (Event T) → Type 0
  IsFilled index events = is_some (filled_of index events) ≡ true

  -- the index is filled for this owner
  abbrev pub IsFilledWith : (owner index : ℕ) → List (Event T) → Type 0
  IsFilledWith owner index events = filled_of index events ≡ Some owner

  -- the set is not locked
  abbrev pub IsUnlocked : List (Event T) → Type 0
  IsUnlocked events = is_locked events ≡ false

  -- P holds at each moment of the party's latest call
  abbrev pub HeldThroughout : ℕ → (List (Event T) → Type 0) → List (Event T) → Type 0
  HeldThroughout p P events =
      (part rest : List (Event T)) → events ≡ part ++ rest → BeginsNone p rest → P part

  -- ---- what a call does to the set, in every run

  -- the owner for whom a release gives an index back lives
  abbrev pub LivesToRelease : ℕ → List (Event T) → Span T → Type 0
  LivesToRelease owner before (Open (Robust (Release i o mode)) wrote) =
      is_dead owner before ≡ false
  LivesToRelease owner before (Open (Container (Remove i o mode)) wrote) =
      is_dead owner before ≡ false
  LivesToRelease owner before span = Unit {0}

  -- An index of the set is filled only if it is not filled, and filled and granted only for an owner who
  -- lives. It is freed only if it is filled with that owner, and by a release only while that owner
  -- lives. The lock comes once; after it nothing is granted, and a call that began after it fills
  -- nothing. An owner dies once.
  abbrev pub SetDoes : ℕ → List (Event T) → Event T → Type 0
  SetDoes capacity before (Filled p index owner) =
      (index < capacity) × (filled_of index before ≡ None) × (is_dead owner before ≡ false)
      × HeldSometime p IsUnlocked before
  SetDoes capacity before (Granted p index owner) =
      IsUnlocked before × (is_dead owner before ≡ false)
  SetDoes capacity before (FreedOf p index owner) =
      (filled_of index before ≡ Some owner) × LivesToRelease owner before (span_of p before)
  SetDoes capacity before (Locked p) = IsUnlocked before
  SetDoes capacity before (Died owner) = is_dead owner before ≡ false
  SetDoes capacity before e = Unit {0}

  -- A recovery asks only about an index that is filled with the owner named in the question, and about
  -- none if it began after the lock. It is told to free an index only of a dead owner.
  abbrev pub AsksRight : List (Event T) → Event T → Type 0
  AsksRight before (Asked p index owner) =
      (filled_of index before ≡ Some owner) × HeldSometime p IsUnlocked before
  AsksRight before (Told p index owner) = is_dead owner before ≡ true
  AsksRight before e = Unit {0}

  -- ---- holders, in a well-formed run

  -- A release or a remove that frees was begun where its index might be given back for its owner: the acquire or the
  -- add that was granted it had finished, and no other release or remove of it for that owner had begun since.
  abbrev pub MayGiveBack : (p index : ℕ) → List (Event T) → Span T → Type 0
  MayGiveBack p index before (Open (Robust (Release i owner mode)) wrote) =
      SinceBegin p (λ part since. settled_of index part ≡ Some owner) before
  MayGiveBack p index before (Open (Container (Remove i owner mode)) wrote) =
      SinceBegin p (λ part since. settled_of index part ≡ Some owner) before
  MayGiveBack p index before span = Unit {0}

  -- an index is freed only where the call might give it back
  abbrev pub FreesRight : List (Event T) → Event T → Type 0
  FreesRight before (FreedOf p index owner) = MayGiveBack p index before (span_of p before)
  FreesRight before e = Unit {0}

  -- The run is well-formed: each release or remove that freed an index was begun where it might
  -- give that index back.
  abbrev pub IsWellFormed : List (Event T) → Type 0
  IsWellFormed events = Each FreesRight events

  -- No index is granted that has a holder, and the set is locked only where no index has one.
  abbrev pub HoldsRight : List (Event T) → Event T → Type 0
  HoldsRight before (Granted p index owner) = holder_of index before ≡ None
  HoldsRight before (Locked p) = (index : ℕ) → holder_of index before ≡ None
  HoldsRight before e = Unit {0}

  -- ---- answers

  -- `number` counts indices below the bound: each for which P held through the whole call, and none for which it held
  -- at no moment of it.
  pub record IsCount (p : ℕ) (P : ℕ → List (Event T) → Type 0) (bound number : ℕ)
      (events : List (Event T)) : Type 0 where
    -- the indices that are counted
    pub chosen : ℕ → Bool
    pub is : count_below chosen bound ≡ number
    -- P held for each of them at a moment of the call
    pub once : (index : ℕ) → index < bound → chosen index ≡ true → HeldSometime p (P index) events
    -- each for which P held through the whole call is one
    pub through : (index : ℕ) → index < bound → HeldThroughout p (P index) events
        → chosen index ≡ true

  -- The number that a find answers counts its owner's indices below a bound, which is at most the
  -- capacity. (That it is the capacity unless the decision no ended the call is `FindsAll`.)
  pub record IsFound (p owner capacity number : ℕ) (events : List (Event T)) : Type 0 where
    pub bound : ℕ
    pub within : bound ≤ capacity
    pub count : IsCount p (IsFilledWith owner) bound number events

  -- some index was filled at a moment of the call after the call had freed this index
  pub record FilledSinceFreed (p owner index : ℕ) (events : List (Event T)) : Type 0 where
    pub other : ℕ
    pub once : HeldSometime p
        (λ part. IsOneOf (Frees index owner) (set_acts_of p part) × IsFilled other part) events

  -- the index was filled with this owner, or the recovery has freed it
  abbrev pub StillToFree : (p owner index : ℕ) → List (Event T) → Type 0
  StillToFree p owner index part =
      IsFilledWith owner index part ⊎ IsOneOf (Frees index owner) (set_acts_of p part)

  -- What a recovery that answers Unlocked has done. No index that it was told to free has the owner any
  -- more that was named to it. It asked about each index that was filled with one owner through the whole
  -- call, or until the call itself freed it.
  pub record HasRecovered (p : ℕ) (events : List (Event T)) : Type 0 where
    pub gone : (index owner : ℕ) → IsOneOf (Yes index owner) (set_acts_of p events)
        → filled_of index events ≢ Some owner
    pub asked : (index owner : ℕ) → HeldThroughout p (StillToFree p owner index) events
        → IsOneOf (Asks index owner) (set_acts_of p events)

  -- What an answer says of the set as it was at the last step of the call, and at moments of it.
  abbrev pub AnswersRight : ℕ → List (Event T) → Event T → Type 0
  AnswersRight capacity before (Finished p (Robust (Acquire owner)) (NoIndex failures.IsLocked)) =
      is_locked before ≡ true
  AnswersRight capacity before
      (Finished p (Robust (Acquire owner)) (NoIndex failures.OutOfIndices)) =
      IsUnlocked before × ((index : ℕ) → index < capacity → HeldSometime p (IsFilled index) before)
  AnswersRight capacity before (Finished p (Robust (Release index owner mode)) (NotOwned failure)) =
      filled_of index before ≢ Some owner
  AnswersRight capacity before
      (Finished p (Robust (Release index owner mode)) (State states.Locked)) =
      is_locked before ≡ true
  AnswersRight capacity before
      (Finished p (Robust (Release index owner LockIfLastIndex)) (State states.Unlocked)) =
      IsUnlocked before × FilledSinceFreed p owner index before
  AnswersRight capacity before (Finished p (Robust (Find owner)) (Number number)) =
      IsFound p owner capacity number before
  AnswersRight capacity before (Finished p (Robust (Recover mode)) (State states.Locked)) =
      is_locked before ≡ true
  AnswersRight capacity before (Finished p (Robust (Recover mode)) (State states.Unlocked)) =
      IsUnlocked before × HasRecovered p before
  AnswersRight capacity before (Finished p (Robust BorrowedIndices) (Number number)) =
      (is_locked before ≡ true → number ≡ 0)
      × (is_locked before ≡ false → IsCount p IsFilled capacity number before)
  AnswersRight capacity before (Finished p (Robust IsLocked) (Truth locked)) =
      locked ≡ is_locked before
  AnswersRight capacity before e = Unit {0}

  -- ---- what the words say, and what is kept beside them

  -- the machine refuses as dead whoever has died by the events
  abbrev pub KeepsDead : Registry T → List (Event T) → Type 0
  KeepsDead (registries.Owners dead) events =
      (owner : ℕ) → has_died owner dead ≡ is_dead owner events
  KeepsDead kept events = ⊥

  -- What holds of a robust set's machine after any turns: each event is right, and cells, lock and the dead agree with
  -- the events. Who holds an index is said only of well-formed runs.
  pub record IsRobustSet (t : Trace T) : Type 0 where
    -- Indices are filled, granted and freed, and the set is locked, only as `SetDoes` allows.
    pub does : Each (SetDoes t.world.capacity) t.events
    -- Recoveries ask only about filled indices, and are told to free only those of the dead.
    pub asks : Each AsksRight t.events
    -- in a well-formed run no index is granted that is held
    pub holds : IsWellFormed t.events → Each HoldsRight t.events
    -- each answer is right
    pub answers : Each (AnswersRight t.world.capacity) t.events
    -- each cell says for whom its index is filled
    pub cells : (index : ℕ) → index < t.world.capacity
        → slice_index t.world.words (cell_word index) ≡ cell_of (filled_of index t.events)
    -- the counter says whether the set is locked
    pub lock : (slice_index t.world.words 0 == locked) ≡ is_locked t.events
    -- the machine keeps who has died
    pub dead : KeepsDead t.world.kept t.events

  -- ---- the promise

  -- what a call that has finished with this answer has written; a call of another family has not begun
  abbrev pub wrote : ℕ → Start T → Answer T → List (Event T) → Type 0
  wrote capacity (Robust start) answer events = HasDone start answer (set_acts events)
  wrote capacity start answer events = ⊥

  -- how many steps a call takes at most; a call of another family does not begin
  abbrev pub most : (capacity size : ℕ) → Start T → ℕ → ℕ
  most capacity size (Robust start) backs = most_steps capacity start backs
  most capacity size start backs = 0

  -- no call of the set acts
  abbrev pub ActsRight : Trace T → Option Ask → (ℕ → Type 0) → Event T → Type 0
  ActsRight old ask IsTurnOf e = ⊥

  -- a find that ends in another turn than the decision no has come to the indices of the whole set
  abbrev pub FindsAll : Trace T → Turn T → Trace T → Type 0
  FindsAll old turn new =
      (p owner number : ℕ)
      → new.events ≡ old.events ++ Finished p (Robust (Find owner)) (Number number) ∷ []
      → turn ≢ Decide p false
      → IsCount p (IsFilledWith owner) old.world.capacity number old.events

  -- the index that a party's call asks about
  abbrev pub asked_of : Coding T → Option (Flight T) → Option ℕ
  asked_of code None = None
  asked_of code (Some flight) = asked_by (want_of code flight)

  -- a find that its caller has ended with the decision no came to the indices up to the one that it asked about
  pub record IsStopped (p owner : ℕ) (old new : Trace T) : Type 0 where
    -- the index that it asked about
    pub index : ℕ
    pub number : ℕ
    pub asked : asked_of old.world.coding (flight_in old.world p) ≡ Some index
    pub ends : new.events
        ≡ old.events ++ Finished p (Robust (Find owner)) (Number number) ∷ []
    -- it has counted the indices up to that one
    pub count : IsCount p (IsFilledWith owner) (index + 1) number old.events

  -- the party's call under way is this one
  abbrev pub IsIn : ℕ → Start T → Trace T → Type 0
  IsIn p start t = IsOpenFor start (λ wrote. Unit {0}) (span_of p t.events)

  -- a find that its caller ends with the decision no has come to the indices up to the one that it asked about
  abbrev pub FindsUpTo : Trace T → Turn T → Trace T → Type 0
  FindsUpTo old turn new =
      (p owner : ℕ) → turn ≡ Decide p false → IsIn p (Robust (Find owner)) old
      → IsStopped p owner old new

  -- What a find has counted that ends in this turn: all indices of the set, or, if the decision no ends
  -- it, those up to its question.
  abbrev pub FindsRight : Trace T → Turn T → Trace T → Type 0
  FindsRight old turn new = FindsAll old turn new × FindsUpTo old turn new

  -- ---- what a recovery is told

  -- the index, of an owner, that a party's call asks about
  abbrev pub owned_of : Coding T → Option (Flight T) → Option (ℕ × ℕ)
  owned_of code None = None
  owned_of code (Some flight) = owned_by (want_of code flight)

  -- a turn that writes Told says yes to the question about just that index of that owner
  abbrev pub ToldRight : Trace T → Turn T → Event T → Type 0
  ToldRight old turn (Told p index owner) =
      (turn ≡ Decide p true)
      × (owned_of old.world.coding (flight_in old.world p) ≡ Some (index, owner))
  ToldRight old turn e = Unit {0}

  -- each yes that a turn has written down is one to a question about just that index of that owner
  pub record TellsOnce (old : Trace T) (turn : Turn T) (new : Trace T) : Type 0 where
    pub wrote : List (Event T)
    pub is : new.events ≡ old.events ++ wrote
    pub told : AllByRecursion (ToldRight old turn) wrote

  -- a yes has told the party's recovery to free one index, and the turn wrote nothing else
  pub record IsTold (p : ℕ) (old new : Trace T) : Type 0 where
    pub index : ℕ
    pub owner : ℕ
    pub is : new.events ≡ old.events ++ Told p index owner ∷ []

  -- a yes to a recovery tells it of one index, and the turn writes nothing else
  abbrev pub YesTells : Trace T → Turn T → Trace T → Type 0
  YesTells old turn new =
      (p : ℕ) (mode : ReleaseMode) → turn ≡ Decide p true → IsIn p (Robust (Recover mode)) old
      → IsTold p old new

  -- What a turn tells of finds that end in it, and of recoveries that are told to free an index.
  abbrev pub TellsRight : Trace T → Turn T → Trace T → Type 0
  TellsRight old turn new =
      FindsRight old turn new × TellsOnce old turn new × YesTells old turn new

  -- what a robust set promises of each run
  abbrev pub promise : Promise T
  promise =
      record {
        may_stand = may_stand;
        wrote = wrote;
        most_steps = most;
        acts_right = ActsRight;
        tells = TellsRight;
        holds = IsRobustSet;
      }
