-- What holds of the machine of the container, after any turns.
use Rattle.std.specs.Prelude.{◌≡◌, ◌≢◌, ◌⊎◌, ℕ, ◌+◌, ◌<◌, ◌≤◌, ◌==◌, Bool, true, false, Option, Some, None, is_some, List, [], ◌∷◌, ◌++◌, slice_index}
use Rattle.steps.specs.Container.Layout.{count_word, element_word, is_even}
use Rattle.steps.specs.declared.ask.Ask.{Ask}
use Rattle.steps.specs.declared.container.enums.ContainerAddFailure.TheVariants as failures
use Rattle.steps.specs.declared.container.state.ContainerState.{ContainerState}
use Rattle.steps.specs.declared.indices.enums.ReleaseMode.TheVariants.{LockIfLastIndex}
use Rattle.steps.specs.declared.indices.enums.ReleaseState.TheVariants as locks
use Rattle.steps.specs.Indices.Robust.Parts.{cell_word, locked}
use Rattle.model.specs.declared.event.Answer.{Answer}
use Rattle.model.specs.declared.event.Answer.TheVariants.{Done, Index, State, Number, Truth, NoPlace, NotRemoved}
use Rattle.model.specs.declared.event.Event.{Event}
use Rattle.model.specs.declared.event.Event.TheVariants.{FreedOf, Asked, Told, Placed, Hidden, Copied, Shown, Finished}
use Rattle.model.specs.declared.event.Start.{Start}
use Rattle.model.specs.declared.event.Start.TheVariants.{Container}
use Rattle.model.specs.declared.families.Registry.{Registry}
use Rattle.model.specs.declared.families.Registry.TheVariants as registries
use Rattle.model.specs.declared.families.container.ContainerStart.{ContainerStart}
use Rattle.model.specs.declared.families.container.ContainerStart.TheVariants.{Add, Remove, Replace, Find, Recover, Len, IsEmpty, IsLocked}
use Rattle.model.specs.declared.party.Party.{Party}
use Rattle.model.specs.declared.turn.Turn.{Turn}
use Rattle.model.specs.declared.turn.Turn.TheVariants.{Decide}
use Rattle.model.specs.Coding.{Coding}
use Rattle.model.specs.Families.Container.Bounds.{most_steps}
use Rattle.model.specs.Families.Container.Keeping.{KeepsStates}
use Rattle.model.specs.Families.Container.Looks.{state_in, ShowsCopies, IsCurrent, AnswersOfState, MomentsOfState, EndsLook}
use Rattle.model.specs.Families.Container.Questions.{question_at, AsksCopies, QuestionsRight, EndsFind}
use Rattle.model.specs.Families.Container.Reading.{contents_of, MayReplace, Copies, Sees, acts, acts_of, places}
use Rattle.model.specs.Families.Container.Recoveries.{VisitsUnlocked, UnlockedAtLast, FilledSinceEach}
use Rattle.model.specs.Families.Container.Removals.{HidesRight}
use Rattle.model.specs.Families.Container.Spans.{may_stand, HasDone}
use Rattle.model.specs.Families.Indices.Reading.{is_locked}
use Rattle.model.specs.Families.Indices.Robust.Dead.{has_died}
use Rattle.model.specs.Families.Indices.Robust.Promises.{cell_of, IsFilled, IsFilledWith, IsUnlocked, HeldThroughout}
use Rattle.model.specs.Families.Indices.Robust.Promises.{SetDoes, FreesRight, HoldsRight, IsCount, FilledSinceFreed}
use Rattle.model.specs.Families.Indices.Robust.Promises.{StillToFree, IsIn}
use Rattle.model.specs.Families.Indices.Robust.Reading.{filled_of, is_dead, Asks, Yes, set_acts, set_acts_of, IsOneOf}
use Rattle.model.specs.Moments.{HeldSometime}
use Rattle.model.specs.Parties.{party_of}
use Rattle.model.specs.Promise.{Promise}
use Rattle.model.specs.Reading.{Each, Span, Open, span_of}
use Rattle.model.specs.World.{Trace}

module _ {T : Type 0} where
  -- ---- a well-formed run

  -- A replace that answered Done was begun where its party might replace what stood at
  -- the index (`MayReplace`).
  abbrev pub ReplacesRight : List (Event T) → Event T → Type 0
  ReplacesRight before (Finished p (Container (Replace index value owner)) Done) =
      MayReplace p index owner before
  ReplacesRight before e = Unit {0}

  -- A replace under way that has taken a step, and whose owner had the index at a moment of the call, was
  -- begun where its party might replace what stood at the index.
  abbrev pub StandsWellFormed : ℕ → Option (Party T) → List (Event T) → Type 0
  StandsWellFormed p None events = Unit {0}
  StandsWellFormed p (Some x) events =
      (index owner : ℕ) (value : T) (wrote : List (Event T))
      → span_of p events ≡ Open (Container (Replace index value owner)) wrote
      → 1 ≤ x.steps
      → HeldSometime p (IsFilledWith owner index) events
      → MayReplace p index owner events

  -- A run is well-formed if each remove that freed an index was begun where that index might be given
  -- back for its owner, and each replace that found its owner at the index was begun where it might
  -- replace the value.
  pub record IsWellFormedRun (t : Trace T) : Type 0 where
    pub frees : Each FreesRight t.events
    pub replaced : Each ReplacesRight t.events
    pub replaces : (p : ℕ) → StandsWellFormed p (party_of p t.world.latest) t.events

  -- ---- recovery, in every run

  -- A recovery asks only about an index that was filled for the named owner at a moment of the call. That
  -- owner is dead, and the container was unlocked at a moment of the call. It is told to free an index only
  -- of a dead owner.
  abbrev pub AsksRight : List (Event T) → Event T → Type 0
  AsksRight before (Asked p index owner) =
      HeldSometime p (IsFilledWith owner index) before × HeldSometime p IsUnlocked before
      × (is_dead owner before ≡ true)
  AsksRight before (Told p index owner) = is_dead owner before ≡ true
  AsksRight before e = Unit {0}

  -- the recovery was shown that nothing stood at the index
  abbrev pub WasShown : (p index : ℕ) → List (Event T) → Type 0
  WasShown p index events = IsOneOf (Sees index) (acts_of p events)

  -- a recovery frees for its own owner, who is dead, what it was told to free or shown
  abbrev pub FreedRight : (p index owner : ℕ) → List (Event T) → Span T → Type 0
  FreedRight p index owner before (Open (Container (Recover o mode)) wrote) =
      (owner ≡ o) × (is_dead owner before ≡ true)
      × (IsOneOf (Yes index owner) (set_acts_of p before) ⊎ WasShown p index before)
  FreedRight p index owner before span = Unit {0}

  -- An index that a recovery frees was its owner's,
  -- and the recovery was told to free it, or was shown that nothing stood there.
  abbrev pub RecoversRight : List (Event T) → Event T → Type 0
  RecoversRight before (FreedOf p index owner) =
      FreedRight p index owner before (span_of p before)
  RecoversRight before e = Unit {0}

  -- What a recovery that answers Unlocked has done. No index that it was told to free, or was shown
  -- empty, has its owner any more. It asked about each that was filled with its owner through the whole
  -- call, or until the call itself freed it, or was shown it empty.
  pub record HasRecovered (p owner : ℕ) (events : List (Event T)) : Type 0 where
    pub gone : (index : ℕ)
        → IsOneOf (Yes index owner) (set_acts_of p events) ⊎ WasShown p index events
        → filled_of index events ≢ Some owner
    pub asked : (index : ℕ) → HeldThroughout p (StillToFree p owner index) events
        → IsOneOf (Asks index owner) (set_acts_of p events) ⊎ WasShown p index events

  -- ---- answers, in every run

  -- The number that a find answers counts its owner's indices below a bound, which is at most the
  -- capacity. (That it is the capacity unless the decision no ended the call is `FindsAll`.)
  pub record IsFound (p owner capacity number : ℕ) (events : List (Event T)) : Type 0 where
    pub bound : ℕ
    pub within : bound ≤ capacity
    pub count : IsCount p (IsFilledWith owner) bound number events

  -- What `len` answers: 0 once the container is locked, and before that a count of filled indices, with
  -- each that was filled through the whole call, and none that was filled at no moment of it.
  pub record IsLength (p capacity number : ℕ) (events : List (Event T)) : Type 0 where
    pub none : is_locked events ≡ true → number ≡ 0
    pub some : IsUnlocked events → IsCount p IsFilled capacity number events

  -- What `is_empty` answers: whether a number is 0 that `len` might answer at the same end of the call.
  pub record IsLengthTest (p capacity : ℕ) (empty : Bool) (events : List (Event T)) : Type 0 where
    pub number : ℕ
    pub is : empty ≡ (number == 0)
    pub length : IsLength p capacity number events

  -- What an answer says of the container as it was at the last step of the call, and at moments of it.
  abbrev pub AnswersRight : ℕ → List (Event T) → Event T → Type 0
  AnswersRight capacity before
      (Finished p (Container (Add value owner)) (NoPlace failures.IsLocked)) =
      is_locked before ≡ true
  AnswersRight capacity before
      (Finished p (Container (Add value owner)) (NoPlace failures.OutOfSpace)) =
      IsUnlocked before × ((index : ℕ) → index < capacity → HeldSometime p (IsFilled index) before)
  AnswersRight capacity before
      (Finished p (Container (Remove index owner mode)) (NotRemoved failure)) =
      (capacity ≤ index) ⊎ (filled_of index before ≢ Some owner)
  AnswersRight capacity before
      (Finished p (Container (Remove index owner mode)) (State locks.Locked)) =
      is_locked before ≡ true
  AnswersRight capacity before
      (Finished p (Container (Remove index owner LockIfLastIndex)) (State locks.Unlocked)) =
      HeldSometime p IsUnlocked before × FilledSinceFreed p owner index before
  AnswersRight capacity before
      (Finished p (Container (Replace index value owner)) (NotRemoved failure)) =
      (capacity ≤ index) ⊎ (filled_of index before ≢ Some owner)
  AnswersRight capacity before
      (Finished p (Container (Replace index value owner)) Done) =
      (index < capacity) × HeldSometime p (IsFilledWith owner index) before
  AnswersRight capacity before (Finished p (Container (Find owner)) (Number number)) =
      IsFound p owner capacity number before
  AnswersRight capacity before
      (Finished p (Container (Recover owner mode)) (State locks.Locked)) =
      is_locked before ≡ true
  AnswersRight capacity before
      (Finished p (Container (Recover owner mode)) (State locks.Unlocked)) =
      UnlockedAtLast p before × HasRecovered p owner before × FilledSinceEach mode p owner before
  AnswersRight capacity before (Finished p (Container Len) (Number number)) =
      IsLength p capacity number before
  AnswersRight capacity before (Finished p (Container IsEmpty) (Truth empty)) =
      IsLengthTest p capacity empty before
  AnswersRight capacity before (Finished p (Container IsLocked) (Truth locked)) =
      locked ≡ is_locked before
  AnswersRight capacity before e = Unit {0}

  -- ---- contents, in a well-formed run

  -- A value is placed at an index only where none stands, and hidden only where one stands. What a call
  -- copies is the value that stands at the index, whole. A recovery is shown an index only where no value
  -- stands at it.
  abbrev pub ContainsRight : List (Event T) → Event T → Type 0
  ContainsRight before (Placed p index value) = contents_of index before ≡ None
  ContainsRight before (Hidden p index) = contents_of index before ≢ None
  ContainsRight before (Copied p index value) = contents_of index before ≡ Some value
  ContainsRight before (Shown p index) = contents_of index before ≡ None
  ContainsRight before e = Unit {0}

  -- an add or a replace that succeeded placed its argument, once, at its index, and nothing else
  abbrev pub PlacesRight : List (Event T) → Event T → Type 0
  PlacesRight before (Finished p (Container (Add value owner)) (Index index)) =
      places (acts_of p before) ≡ (index, value) ∷ []
  PlacesRight before (Finished p (Container (Replace index value owner)) Done) =
      places (acts_of p before) ≡ (index, value) ∷ []
  PlacesRight before e = Unit {0}

  -- The words of an element by the value at its index: if there is none, the number of the element is
  -- even; else it is odd, and the words of the element are those of the value.
  abbrev pub HasElement : Coding T → ℕ → List ℕ → ℕ → Option T → Type 0
  HasElement code capacity words index None =
      is_even (slice_index words (count_word capacity index)) ≡ true
  HasElement code capacity words index (Some value) =
      (is_even (slice_index words (count_word capacity index)) ≡ false)
      × ((at : ℕ) → at < code.size
      → slice_index words (element_word capacity code.size index at)
      ≡ slice_index (code.words_of value) at)

  -- the words of each element say what stands at its index by the events
  abbrev pub HasElements : Trace T → Type 0
  HasElements t =
      (index : ℕ) → index < t.world.capacity
      → HasElement t.world.coding t.world.capacity t.world.words index
      (contents_of index t.events)

  -- what holds in a well-formed run: of who holds an index, of what stands there, and of the elements' words
  pub record IsContained (t : Trace T) : Type 0 where
    -- no index is granted that is held
    pub holders : Each HoldsRight t.events
    -- values are placed, hidden, copied and shown right
    pub contents : Each ContainsRight t.events
    -- an add or a replace that succeeded has placed its value
    pub placed : Each PlacesRight t.events
    -- what stood at an index that was freed is hidden
    pub hidden : Each HidesRight t.events
    -- the words of each element say what stands there
    pub elements : HasElements t

  -- ---- what the words say, and what is kept beside them

  -- the machine refuses as dead whoever has died by the events
  abbrev pub KeepsDead : Registry T → List (Event T) → Type 0
  KeepsDead (registries.Container dead states) events =
      (owner : ℕ) → has_died owner dead ≡ is_dead owner events
  KeepsDead kept events = ⊥

  -- What holds of a container's machine after any turns: each event is right, and cells, lock, the dead, questions and
  -- states agree with the events. What stands at an index is said only of well-formed runs.
  pub record IsContainer (t : Trace T) : Type 0 where
    -- Indices are filled, granted and freed, and the container is locked, only as `SetDoes` allows.
    pub does : Each (SetDoes t.world.capacity) t.events
    -- Recoveries ask only about indices of their dead owner.
    pub asks : Each AsksRight t.events
    -- Recoveries free for their dead owner what they were told to free or were shown empty.
    pub recovers : Each RecoversRight t.events
    -- each answer is right
    pub answers : Each (AnswersRight t.world.capacity) t.events
    -- each cell says for whom its index is filled
    pub cells : (index : ℕ) → index < t.world.capacity
        → slice_index t.world.words (cell_word index) ≡ cell_of (filled_of index t.events)
    -- the counter says whether the container is locked
    pub lock : (slice_index t.world.words 0 == locked) ≡ is_locked t.events
    -- the machine keeps who has died
    pub dead : KeepsDead t.world.kept t.events
    -- each question is about the value that was copied last
    pub questions : AsksCopies t
    -- each state shows what its party has copied
    pub states : ShowsCopies t.world t.events
    -- In a well-formed run also the holders and the contents are right.
    pub well_formed : IsWellFormedRun t → IsContained t

  -- ---- what a turn tells

  -- The indices below the bound that a find has counted; in a well-formed run it has copied each counted one where a
  -- value stood through the call.
  pub record IsFoundWhole (p owner bound number : ℕ) (events : List (Event T)) : Type 0 where
    pub count : IsCount p (IsFilledWith owner) bound number events
    pub copied : (index : ℕ) → index < bound → count.chosen index ≡ true
        → HeldThroughout p (λ part. is_some (contents_of index part) ≡ true) events
        → (value : T) × IsOneOf (Copies index value) (acts_of p events)

  -- the indices below the bound that a find has counted, and, in a well-formed run, the values there that it has copied
  abbrev pub CountsRight : (p owner bound number : ℕ) → List (Event T) → Trace T → Type 0
  CountsRight p owner bound number events new =
      IsCount p (IsFilledWith owner) bound number events
      × (IsWellFormedRun new → IsFoundWhole p owner bound number events)

  -- a find that ends in another turn than the decision no has come to the indices of the whole container
  abbrev pub FindsAll : Trace T → Turn T → Trace T → Type 0
  FindsAll old turn new =
      (p owner number : ℕ) (ends : EndsFind p owner number old new)
      → turn ≢ Decide p false
      → CountsRight p owner old.world.capacity number (old.events ++ ends.wrote) new

  -- a find that its caller has ended with the decision no came to the indices up to the one that it asked about
  pub record IsStopped (p owner : ℕ) (old new : Trace T) : Type 0 where
    -- the index that it asked about
    pub index : ℕ
    pub value : T
    pub number : ℕ
    pub asked : question_at old p ≡ Some (index, value)
    pub ends : new.events
        ≡ old.events ++ Finished p (Container (Find owner)) (Number number) ∷ []
    -- it has counted the indices up to that one
    pub counts : CountsRight p owner (index + 1) number old.events new

  -- a find that its caller ends with the decision no has come to the indices up to the one that it asked about
  abbrev pub FindsUpTo : Trace T → Turn T → Trace T → Type 0
  FindsUpTo old turn new =
      (p owner : ℕ) → turn ≡ Decide p false → IsIn p (Container (Find owner)) old
      → IsStopped p owner old new

  -- What holds of the state that a look leaves: what its answer says, and, in a well-formed run, that the
  -- state shows what stood in the container.
  abbrev pub LooksRight : Trace T → Turn T → Trace T → Type 0
  LooksRight old turn new =
      (p : ℕ) (start : ContainerStart T) (answer : Answer T) (state : ContainerState T)
      → EndsLook p start answer old new
      → state_in new.world.kept p ≡ Some state
      → AnswersOfState start answer (state_in old.world.kept p) state
      × (IsWellFormedRun new
      → IsCurrent p old.world.capacity state new.events
      × MomentsOfState p old.world.capacity start answer state new.events)

  -- a look that ends leaves its party with a state
  abbrev pub LeavesState : Trace T → Turn T → Trace T → Type 0
  LeavesState old turn new =
      (p : ℕ) (start : ContainerStart T) (answer : Answer T) → EndsLook p start answer old new
      → is_some (state_in new.world.kept p) ≡ true

  -- What a turn of a container tells: of finds and looks that end, of questions, of the parties' states, and of the
  -- indices that a recovery visits.
  pub record TellsRight (old : Trace T) (turn : Turn T) (new : Trace T) : Type 0 where
    -- a find that ends in a turn other than the decision no has counted all
    pub finds : FindsAll old turn new
    -- a find that the decision no ends has counted up to its question
    pub finds_up_to : FindsUpTo old turn new
    -- which questions are put, and what a decision does
    pub questions : QuestionsRight old turn new
    -- a look that ends has left the right state
    pub looks : LooksRight old turn new
    -- a look that ends leaves a state
    pub leaves : LeavesState old turn new
    -- A party's state changes only in turns of its own looks.
    pub states : KeepsStates old turn new
    -- a recovery that began after the lock comes to no index
    pub visits : VisitsUnlocked old new

  -- ---- the promise

  -- what a call that has finished with this answer has written; a call of another family has not begun
  abbrev pub wrote : ℕ → Start T → Answer T → List (Event T) → Type 0
  wrote capacity (Container start) answer events = HasDone start answer (set_acts events) (acts events)
  wrote capacity start answer events = ⊥

  -- how many steps a call takes at most; a call of another family does not begin
  abbrev pub most : (capacity size : ℕ) → Start T → ℕ → ℕ
  most capacity size (Container start) backs = most_steps capacity size start backs
  most capacity size start backs = 0

  -- no call of the container acts
  abbrev pub ActsRight : Trace T → Option Ask → (ℕ → Type 0) → Event T → Type 0
  ActsRight old ask IsTurnOf e = ⊥

  -- what a container promises of each run
  abbrev pub promise : Promise T
  promise =
      record {
        may_stand = may_stand;
        wrote = wrote;
        most_steps = most;
        acts_right = ActsRight;
        tells = TellsRight;
        holds = IsContainer;
      }
