-- The calls on robust index sets as calls of the model: which indices each may be at, by its stage, and which
-- events it has written there (`Calling`, in `Stages`).
use Rattle.std.specs.Prelude.{◌≡◌, ◌⊎◌, ℕ, ◌<◌, ◌==◌, Bool, false, None, IfSome, Ok, Err, List, [], ◌∷◌, ◌++◌, flat_map, All, AllPairs, if◌then◌else◌}
use Rattle.steps.specs.Indices.Robust.Acquire.{Acquired}
use Rattle.steps.specs.Indices.Robust.Release.{Released}
use Rattle.steps.specs.declared.indices.enums.ReleaseMode.{ReleaseMode}
use Rattle.steps.specs.declared.indices.enums.ReleaseMode.TheVariants.{LockIfLastIndex}
use Rattle.steps.specs.declared.indices.enums.ReleaseState.{ReleaseState}
use Rattle.steps.specs.declared.indices.enums.ReleaseState.TheVariants as states
use Rattle.steps.specs.declared.indices.enums.UniqueIndexSetAcquireFailure.TheVariants as failures
use Rattle.steps.specs.declared.indices.robust.acquire.Acquire.{Acquire as Acquiring}
use Rattle.steps.specs.declared.indices.robust.acquire.AcquireStage.{AcquireStage}
use Rattle.steps.specs.declared.indices.robust.acquire.AcquireStage.TheVariants as acquires
use Rattle.steps.specs.declared.indices.robust.looks.BorrowedIndices.{BorrowedIndices as Counting}
use Rattle.steps.specs.declared.indices.robust.looks.IsLocked.{IsLocked as Looking}
use Rattle.steps.specs.declared.indices.robust.parts.Count.{Count}
use Rattle.steps.specs.declared.indices.robust.parts.Count.TheVariants as counts
use Rattle.steps.specs.declared.indices.robust.parts.Lock.{Lock}
use Rattle.steps.specs.declared.indices.robust.parts.Lock.TheVariants as locks
use Rattle.steps.specs.declared.indices.robust.recover.Recover.{Recover as Recovering}
use Rattle.steps.specs.declared.indices.robust.recover.RecoverStage.{RecoverStage}
use Rattle.steps.specs.declared.indices.robust.recover.RecoverStage.TheVariants as recovers
use Rattle.steps.specs.declared.indices.robust.release.GiveBack.{GiveBack}
use Rattle.steps.specs.declared.indices.robust.release.Release.{Release as Releasing}
use Rattle.steps.specs.declared.indices.robust.release.ReleaseStage.{ReleaseStage}
use Rattle.steps.specs.declared.indices.robust.release.ReleaseStage.TheVariants as releases
use Rattle.model.specs.declared.event.Answer.TheVariants.{State, Number, Truth}
use Rattle.model.specs.declared.event.Event.{Event}
use Rattle.model.specs.declared.event.Event.TheVariants.{Filled, Granted, FreedOf, Asked, Told, Locked}
use Rattle.model.specs.declared.event.Start.TheVariants.{Robust}
use Rattle.model.specs.declared.families.Flight.TheVariants as flights
use Rattle.model.specs.declared.families.indices.robust.RobustStart.TheVariants.{Acquire, Release, Recover, BorrowedIndices, IsLocked}
use Rattle.model.specs.declared.families.indices.robust.calls.RobustFlight.TheVariants as calls
use Rattle.model.specs.Families.Indices.Robust.Calls.{acquire_answer, release_answer}
use Rattle.history.specs.Stages.{Calling}

-- ---- where a call stands in a set of this capacity: each index that it is at is one of the set

-- a count that loads a cell is at the cell of an index of the set
abbrev pub CountIn : ℕ → Count → Type 0
CountIn capacity (counts.LoadsCell counter index filled) = index < capacity
CountIn capacity count = Unit {0}

-- a lock that counts is at an index of the set
abbrev pub LockIn : ℕ → Lock → Type 0
LockIn capacity (locks.Counts count) = CountIn capacity count
LockIn capacity lock = Unit {0}

-- an acquire that fills a cell, or raises the counter after that, is at an index of the set
abbrev pub AcquireIn : ℕ → AcquireStage → Type 0
AcquireIn capacity (acquires.FillsCell counter index) = index < capacity
AcquireIn capacity (acquires.Raises index raise) = index < capacity
AcquireIn capacity stage = Unit {0}

-- a release locks only in the mode that locks, and its count is at an index of the set
abbrev pub ReleaseIn : ℕ → ReleaseMode → ReleaseStage → Type 0
ReleaseIn capacity mode (releases.Locks lock) = (mode ≡ LockIfLastIndex) × LockIn capacity lock
ReleaseIn capacity mode stage = Unit {0}

-- a recovery is at an index of the set at each stage that has one, and it locks only in the mode that locks
abbrev pub RecoverIn : ℕ → ReleaseMode → RecoverStage → Type 0
RecoverIn capacity mode (recovers.LoadsCell index) = index < capacity
RecoverIn capacity mode (recovers.Asks index owner) = index < capacity
RecoverIn capacity mode (recovers.EmptiesCell index owner) = index < capacity
RecoverIn capacity mode (recovers.Raises index raise) = index < capacity
RecoverIn capacity mode (recovers.Locks index lock) =
    (mode ≡ LockIfLastIndex) × (index < capacity) × LockIn capacity lock
RecoverIn capacity mode stage = Unit {0}

-- ---- acquire

module _ {T : Type 0} where
  -- what an acquire has written at this stage
  abbrev pub filled_at : (p owner : ℕ) → AcquireStage → List (Event T)
  filled_at p owner (acquires.Raises index raise) = Filled p index owner ∷ []
  filled_at p owner stage = []

  -- What an acquire with this answer has written in all. One that answers that the set is locked may have
  -- filled an index, which keeps its owner.
  abbrev pub AcquireWrote : (capacity p owner : ℕ) → Acquired → List (Event T) → Type 0
  AcquireWrote capacity p owner (Ok index) es =
      (index < capacity) × (es ≡ Filled p index owner ∷ Granted p index owner ∷ [])
  AcquireWrote capacity p owner (Err failures.IsLocked) es =
      (es ≡ []) ⊎ ((index : ℕ) × (index < capacity) × (es ≡ Filled p index owner ∷ []))
  AcquireWrote capacity p owner (Err failures.OutOfIndices) es = es ≡ []

  -- An acquire of an index for this owner, by the party that the pass has been, if it has been one. It ends with the
  -- index or why there is none; what it has written is told of a call whose begin the pass has seen.
  abbrev pub takes_owned : ℕ → Calling T Acquiring (Unit {0}) Acquired
  takes_owned owner =
      record {
        start = Robust (Acquire owner);
        -- the party that the pass was last makes the call, if the pass has been a party
        by = λ was p. IfSome was (λ q. q ≡ p);
        -- what holds of the call between two steps, and which call of the model is then under way
        stands = λ capacity c. (c.capacity ≡ capacity) × AcquireIn capacity c.stage;
        flight = λ c m.
            flights.Robust
            (calls.Acquire (record { call = c; given = owner; room = m }));
        answer = λ e m. acquire_answer e;
        -- no word that it loads ends it outside the history
        skips = λ c n. false;
        left = λ e. ⊥;
        -- what was written is known only where the pass has seen the call begin
        wrote = λ capacity p from c m es. from ≡ None → es ≡ filled_at p owner c.stage;
        wrote_all = λ capacity p from e m es. from ≡ None → AcquireWrote capacity p owner e es;
      }

  -- ---- release

  -- what a release has written at this stage: once the cell is empty, that the index is free
  abbrev pub freed_at : ℕ → GiveBack → ReleaseStage → List (Event T)
  freed_at p given releases.EmptiesCell = []
  freed_at p given stage = FreedOf p given.index given.owner ∷ []

  -- What a release with this answer has written in all: nothing where it failed, since the index was not its
  -- owner's; else that the index is free, and that it locked the set, where it did.
  abbrev pub ReleaseWrote : ℕ → GiveBack → Released → List (Event T) → Type 0
  ReleaseWrote p given (Err failure) es = es ≡ []
  ReleaseWrote p given (Ok states.Unlocked) es = es ≡ FreedOf p given.index given.owner ∷ []
  ReleaseWrote p given (Ok states.Locked) es =
      (given.mode ≡ LockIfLastIndex)
      × ((es ≡ FreedOf p given.index given.owner ∷ [])
      ⊎ (es ≡ FreedOf p given.index given.owner ∷ Locked p ∷ []))

  -- A release of an index for its owner, by the party that the pass has been, if it has been one. It writes that the
  -- index is free where it empties the cell, and what stands in `ReleaseWrote` by its end.
  abbrev pub gives_owned : GiveBack → Calling T Releasing (Unit {0}) Released
  gives_owned given =
      record {
        start = Robust (Release given.index given.owner given.mode);
        -- the party that the pass was last makes the call, if the pass has been a party
        by = λ was p. IfSome was (λ q. q ≡ p);
        -- what holds of the call between two steps, and which call of the model is then under way
        stands = λ capacity c.
            (c.capacity ≡ capacity) × (given.index < capacity) × ReleaseIn capacity given.mode c.stage;
        flight = λ c m.
            flights.Robust
            (calls.Release (record { call = c; given = given; room = m }));
        answer = λ e m. release_answer e;
        -- no word that it loads ends it outside the history
        skips = λ c n. false;
        left = λ e. ⊥;
        -- what was written is known only where the pass has seen the call begin
        wrote = λ capacity p from c m es. from ≡ None → es ≡ freed_at p given c.stage;
        wrote_all = λ capacity p from e m es. from ≡ None → ReleaseWrote p given e es;
      }

-- ---- recovery

-- How far a recovery came with an index that had an owner:
-- it asked about it, was told to free it, has freed it, and locked the set.
pub data Came : Type 0 where
  HasAsked : Came
  WasTold : Came
  HasFreed : Came
  HasLocked : Came

-- a visit may have locked the set only in the mode that locks
abbrev pub MayCome : ReleaseMode → Came → Type 0
MayCome mode HasLocked = mode ≡ LockIfLastIndex
MayCome mode came = Unit {0}

-- an index with its owner, and how far the recovery came with it
pub record Visit : Type 0 where
  pub index : ℕ
  pub owner : ℕ
  pub came : Came

-- the visits are of ascending indices below this one, and locks are in the mode that locks alone
abbrev pub AreVisits : ReleaseMode → ℕ → List Visit → Type 0
AreVisits mode bound visits =
    AllPairs (λ (x y : Visit). x.index < y.index) visits
    × All (λ (v : Visit). (v.index < bound) × MayCome mode v.came) visits

-- a visit of this index with this owner, with how far the recovery came there
abbrev pub visit : (index owner : ℕ) → Came → Visit
visit index owner came = record { index = index; owner = owner; came = came }

-- the visits, with `came` for how far the recovery came with the last of them
abbrev pub came_to : Came → List Visit → List Visit
came_to came [] = []
came_to came (v ∷ []) = visit v.index v.owner came ∷ []
came_to came (v ∷ w ∷ visits) = v ∷ came_to came (w ∷ visits)

-- the last visit is of this index with this owner, with which the recovery came as far as `came`, and those
-- before are of smaller indices
pub record HasCome (mode : ReleaseMode) (index : ℕ) (came : Came) (owner : ℕ) (visits : List Visit) : Type 0 where
  pub before : List Visit
  pub passed : AreVisits mode index before
  pub is : visits ≡ before ++ visit index owner came ∷ []

-- The visits of a recovery at this stage. An index with an owner is among them once the question
-- about it is answered.
abbrev pub VisitsAt : ℕ → ReleaseMode → RecoverStage → List Visit → Type 0
VisitsAt capacity mode recovers.LoadsCounter visits = visits ≡ []
VisitsAt capacity mode (recovers.LoadsCell index) visits = AreVisits mode index visits
VisitsAt capacity mode (recovers.Asks index owner) visits = AreVisits mode index visits
VisitsAt capacity mode (recovers.EmptiesCell index owner) visits =
    HasCome mode index HasAsked owner visits
VisitsAt capacity mode (recovers.Raises index raise) visits =
    (owner : ℕ) × HasCome mode index HasFreed owner visits
VisitsAt capacity mode (recovers.Locks index lock) visits =
    (owner : ℕ) × HasCome mode index HasFreed owner visits
VisitsAt capacity mode recovers.LoadsCounterAgain visits = AreVisits mode capacity visits

-- the visits of a recovery after a step of its lock: where the counter was exchanged, the last visit has locked the set
abbrev pub visits_locked : Lock → List Visit → ℕ → List Visit
visits_locked (locks.Counts count) visits old = visits
visits_locked (locks.ExchangesCounter counter) visits old =
    if old == counter then came_to HasLocked visits else visits

-- the visits of a recovery after a step that was handed this old value
abbrev pub visits_taken : RecoverStage → List Visit → ℕ → List Visit
visits_taken recovers.LoadsCounter visits old = visits
visits_taken (recovers.LoadsCell index) visits old = visits
visits_taken (recovers.Asks index owner) visits old = visits ++ visit index owner HasAsked ∷ []
visits_taken (recovers.EmptiesCell index owner) visits old =
    came_to (if old == owner then HasFreed else WasTold) visits
visits_taken (recovers.Raises index raise) visits old = visits
visits_taken (recovers.Locks index lock) visits old = visits_locked lock visits old
visits_taken recovers.LoadsCounterAgain visits old = visits

-- the visits after a step of the recovery that was handed this old value
abbrev pub visits_after : Recovering → List Visit → ℕ → List Visit
visits_after call visits old = visits_taken call.stage visits old

module _ {T : Type 0} where
  -- what a recovery writes of an index, by how far it came with it
  abbrev pub wrote_to : (p index owner : ℕ) → Came → List (Event T)
  wrote_to p index owner HasAsked = Asked p index owner ∷ []
  wrote_to p index owner WasTold = Asked p index owner ∷ Told p index owner ∷ []
  wrote_to p index owner HasFreed =
      Asked p index owner ∷ Told p index owner ∷ FreedOf p index owner ∷ []
  wrote_to p index owner HasLocked =
      Asked p index owner ∷ Told p index owner ∷ FreedOf p index owner ∷ Locked p ∷ []

  -- what the recovery has written of a visit
  abbrev pub wrote_of : ℕ → Visit → List (Event T)
  wrote_of p v = wrote_to p v.index v.owner v.came

  -- what a recovery has written at these visits, one visit after another
  abbrev pub wrote_by : ℕ → List Visit → List (Event T)
  wrote_by p visits = flat_map (wrote_of p) visits

  -- what a recovery has written at this stage beside that: its question, or the answer yes, of which its
  -- visits tell after the next step
  abbrev pub wrote_now : ℕ → RecoverStage → List (Event T)
  wrote_now p recovers.LoadsCounter = []
  wrote_now p (recovers.LoadsCell index) = []
  wrote_now p (recovers.Asks index owner) = Asked p index owner ∷ []
  wrote_now p (recovers.EmptiesCell index owner) = Told p index owner ∷ []
  wrote_now p (recovers.Raises index raise) = []
  wrote_now p (recovers.Locks index lock) = []
  wrote_now p recovers.LoadsCounterAgain = []

  -- A recovery in this mode, by the party that the pass has been, if it has been one. It ends with the state of the
  -- set. Its room is the list of its visits, which the set does not know of.
  abbrev pub recovers_owned : ReleaseMode → Calling T Recovering (List Visit) ReleaseState
  recovers_owned mode =
      record {
        start = Robust (Recover mode);
        -- the party that the pass was last makes the call, if the pass has been a party
        by = λ was p. IfSome was (λ q. q ≡ p);
        -- what holds of the call between two steps, and which call of the model is then under way
        stands = λ capacity c. (c.capacity ≡ capacity) × RecoverIn capacity mode c.stage;
        flight = λ c visits.
            flights.Robust
            (calls.Recover (record { call = c; given = mode; room = tt }));
        answer = λ e visits. State e;
        -- no word that it loads ends it outside the history
        skips = λ c n. false;
        left = λ e. ⊥;
        -- what was written is known only where the pass has seen the call begin
        wrote = λ capacity p from c visits es. from ≡ None
            → VisitsAt capacity mode c.stage visits × (es ≡ wrote_by p visits ++ wrote_now p c.stage);
        wrote_all = λ capacity p from e visits es. from ≡ None
            → AreVisits mode capacity visits × (es ≡ wrote_by p visits);
      }

  -- ---- looks

  -- A call that counts the borrowed indices.
  -- It ends with their number, and writes nothing between its begin and its end.
  abbrev pub counts_owned : Calling T Counting (Unit {0}) ℕ
  counts_owned =
      record {
        start = Robust BorrowedIndices;
        -- the party that the pass was last makes the call, if the pass has been a party
        by = λ was p. IfSome was (λ q. q ≡ p);
        -- what holds of the call between two steps, and which call of the model is then under way
        stands = λ capacity c. (c.capacity ≡ capacity) × CountIn capacity c.count;
        flight = λ c m.
            flights.Robust
            (calls.BorrowedIndices (record { call = c; given = tt; room = m }));
        answer = λ n m. Number n;
        -- no word that it loads ends it outside the history
        skips = λ c n. false;
        left = λ e. ⊥;
        -- under way it has written nothing yet
        wrote = λ capacity p from c m es. es ≡ [];
        wrote_all = λ capacity p from n m es. es ≡ [];
      }

  -- A call that tells whether the set is locked. It writes nothing between its begin and its end.
  abbrev pub looks_owned : Calling T Looking (Unit {0}) Bool
  looks_owned =
      record {
        start = Robust IsLocked;
        -- the party that the pass was last makes the call, if the pass has been a party
        by = λ was p. IfSome was (λ q. q ≡ p);
        -- what holds of the call between two steps, and which call of the model is then under way
        stands = λ capacity c. Unit {0};
        flight = λ c m.
            flights.Robust
            (calls.IsLocked (record { call = c; given = tt; room = m }));
        answer = λ b m. Truth b;
        -- no word that it loads ends it outside the history
        skips = λ c n. false;
        left = λ e. ⊥;
        -- under way it has written nothing yet
        wrote = λ capacity p from c m es. es ≡ [];
        wrote_all = λ capacity p from b m es. es ≡ [];
      }
