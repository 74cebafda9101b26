-- A recovery of containers as a call of the model: which indices and words it may be at, by its stage, and
-- which events it has written there, by its visits of the owner's indices.
use Rattle.std.specs.Prelude.{◌≡◌, ℕ, ◌<◌, ◌==◌, if◌then◌else◌, Bool, true, false, Option, Some, None, IfSome, List, [], ◌∷◌, ◌++◌}
use Rattle.steps.specs.Container.Layout.{is_even}
use Rattle.steps.specs.Container.Recover.{recover_kept}
use Rattle.steps.specs.declared.container.recover.DeadOwner.{DeadOwner}
use Rattle.steps.specs.declared.container.recover.Recover.{Recover as Recovering}
use Rattle.steps.specs.declared.container.recover.RecoverStage.{RecoverStage}
use Rattle.steps.specs.declared.container.recover.RecoverStage.TheVariants as recovers
use Rattle.steps.specs.declared.indices.enums.ReleaseMode.{ReleaseMode}
use Rattle.steps.specs.declared.indices.enums.ReleaseMode.TheVariants.{LockIfLastIndex}
use Rattle.steps.specs.declared.indices.enums.ReleaseState.{ReleaseState}
use Rattle.steps.specs.declared.indices.robust.parts.Lock.TheVariants as locks
use Rattle.steps.specs.declared.indices.robust.parts.Lock.{Lock}
use Rattle.model.specs.declared.event.Answer.TheVariants.{State}
use Rattle.model.specs.declared.event.Event.{Event}
use Rattle.model.specs.declared.event.Event.TheVariants.{FreedOf, Asked, Told, Locked, Hidden, Copied, Shown}
use Rattle.model.specs.declared.event.Start.TheVariants.{Container}
use Rattle.model.specs.declared.families.Flight.TheVariants as flights
use Rattle.model.specs.declared.families.container.ContainerStart.TheVariants.{Recover}
use Rattle.model.specs.declared.families.container.calls.ContainerFlight.TheVariants as calls
use Rattle.model.specs.Coding.{Coding}
use Rattle.history_owners.specs.Container.{when}
use Rattle.history_owners.specs.Robust.{LockIn}
use Rattle.history.specs.Rooms.{room_of}
use Rattle.history.specs.Stages.{Calling}
use Rattle.history.specs.Rooms.{value_there}

-- Where a recovery stands: its index is one of the container, a word that it loads is one of the value's, and it copies
-- an element under an odd number.
abbrev pub RecoverIn : (size capacity : ℕ) → ReleaseMode → RecoverStage → Type 0
RecoverIn size capacity mode recovers.LoadsCounter = Unit {0}
RecoverIn size capacity mode (recovers.LoadsCell index) = index < capacity
RecoverIn size capacity mode (recovers.LoadsCount index) = index < capacity
RecoverIn size capacity mode (recovers.LoadsWord index count at) =
    (index < capacity) × (is_even count ≡ false) × (at < size)
RecoverIn size capacity mode (recovers.ChecksCount index count) =
    (index < capacity) × (is_even count ≡ false)
RecoverIn size capacity mode (recovers.Asks index count) =
    (index < capacity) × (is_even count ≡ false)
RecoverIn size capacity mode (recovers.EmptiesCell index count) = index < capacity
RecoverIn size capacity mode (recovers.Hides index count) = index < capacity
RecoverIn size capacity mode (recovers.Raises index raise) = index < capacity
RecoverIn size capacity mode (recovers.Locks index lock) =
    (mode ≡ LockIfLastIndex) × (index < capacity) × LockIn capacity lock
RecoverIn size capacity mode recovers.LoadsCounterAgain = Unit {0}
RecoverIn size capacity mode (recovers.AddsChange state) = Unit {0}

-- How far a recovery came with an index of the owner: it asked about the value
-- that it had copied; it found that nothing stood there, or was told to free it
-- with the value; it freed it, and has hidden the value, and locked the container.
pub data Came (T : Type 0) : Type 0 where
  HasAsked : T → Came T
  HasFound : Option T → Came T
  HasFreed : Option T → (hid locked : Bool) → Came T

module _ {T : Type 0} where
  -- a visit may have hidden a value only where one was found, and locked the container only
  -- in the mode that locks
  abbrev pub MayCome : ReleaseMode → Came T → Type 0
  MayCome mode (HasAsked value) = Unit {0}
  MayCome mode (HasFound found) = Unit {0}
  MayCome mode (HasFreed found hid locked) = (found ≡ None → hid ≡ false) × (locked ≡ true → mode ≡ LockIfLastIndex)

  -- what a recovery writes of an index up to the answer to its question: that nothing stands there, or a copy
  -- of the value, the question and the answer yes
  abbrev pub wrote_found : (p owner index : ℕ) → Option T → List (Event T)
  wrote_found p owner index None = Shown p index ∷ []
  wrote_found p owner index (Some value) =
      Copied p index value ∷ Asked p index owner ∷ Told p index owner ∷ []

  -- what a recovery wrote of an index, by how far it came with it
  abbrev pub wrote_of : (p owner index : ℕ) → Came T → List (Event T)
  wrote_of p owner index (HasAsked value) = Copied p index value ∷ Asked p index owner ∷ []
  wrote_of p owner index (HasFound found) = wrote_found p owner index found
  wrote_of p owner index (HasFreed found hid locked) =
      wrote_found p owner index found
      ++ FreedOf p index owner ∷ (when hid (Hidden p index) ++ when locked (Locked p))

  -- what a recovery wrote at these visits, of which the last one comes first in the list
  abbrev pub wrote_visits : (p owner : ℕ) → List (ℕ × Came T) → List (Event T)
  wrote_visits p owner [] = []
  wrote_visits p owner (visit ∷ before) = wrote_visits p owner before ++ wrote_of p owner visit.0 visit.1

  -- ---- how the visits change with a step: the recovery comes further with the last one, or begins another

  -- the visits with the last one changed
  abbrev pub with_last : (Came T → Came T) → List (ℕ × Came T) → List (ℕ × Came T)
  with_last on [] = []
  with_last on (visit ∷ before) = (visit.0, on visit.1) ∷ before

  -- the visit after the answer yes to its question: the recovery has found the value that it asked about
  abbrev pub told : Came T → Came T
  told (HasAsked value) = HasFound (Some value)
  told (HasFound found) = HasFound found
  told (HasFreed found hid locked) = HasFreed found hid locked

  -- the visit after the recovery emptied the index's cell: it has not hidden the value, nor
  -- locked the container
  abbrev pub freed : Came T → Came T
  freed (HasAsked value) = HasFreed (Some value) false false
  freed (HasFound found) = HasFreed found false false
  freed (HasFreed found hid locked) = HasFreed found hid locked

  -- the visit after the step that hides the value, if it has emptied the cell: `now` says
  -- whether that step hid it
  abbrev pub hides : Bool → Came T → Came T
  hides now (HasAsked value) = HasAsked value
  hides now (HasFound found) = HasFound found
  hides now (HasFreed found hid locked) = HasFreed found now locked

  -- the visit after the recovery locked the container, if it has emptied the cell
  abbrev pub came_locked : Came T → Came T
  came_locked (HasAsked value) = HasAsked value
  came_locked (HasFound found) = HasFound found
  came_locked (HasFreed found hid locked) = HasFreed found hid true

  -- the visits once the number of the element at the index was loaded: under an even number nothing stands
  -- there, which is a visit
  abbrev pub seen_under : (index count : ℕ) → List (ℕ × Came T) → List (ℕ × Came T)
  seen_under index count visits = if is_even count then (index, HasFound None) ∷ visits else visits

  -- the visits after a step of the lock that was handed this old value: where the counter was exchanged, the
  -- last visit has locked the container
  abbrev pub locked_with : Lock → ℕ → List (ℕ × Came T) → List (ℕ × Came T)
  locked_with (locks.Counts count) old visits = visits
  locked_with (locks.ExchangesCounter counter) old visits =
      if old == counter then with_last came_locked visits else visits

  -- the visits after a step that was handed this old value, where the words in the room make this value
  abbrev pub visits_after : ℕ → RecoverStage → ℕ → T → List (ℕ × Came T) → List (ℕ × Came T)
  visits_after owner recovers.LoadsCounter old value visits = visits
  visits_after owner (recovers.LoadsCell index) old value visits = visits
  visits_after owner (recovers.LoadsCount index) old value visits = seen_under index old visits
  visits_after owner (recovers.LoadsWord index count at) old value visits = visits
  visits_after owner (recovers.ChecksCount index count) old value visits =
      if old == count then (index, HasAsked value) ∷ visits else seen_under index old visits
  visits_after owner (recovers.Asks index count) old value visits = visits
  visits_after owner (recovers.EmptiesCell index count) old value visits =
      if old == owner then with_last freed visits else with_last told visits
  visits_after owner (recovers.Hides index count) old value visits = with_last (hides (old == count)) visits
  visits_after owner (recovers.Raises index raise) old value visits = visits
  visits_after owner (recovers.Locks index lock) old value visits = locked_with lock old visits
  visits_after owner recovers.LoadsCounterAgain old value visits = visits
  visits_after owner (recovers.AddsChange state) old value visits = visits

  -- ---- which visits a recovery may have at a stage

  -- A visit whose cell the recovery is about to empty: it asked about a value, under an odd number of the
  -- element, or it found that nothing stood there, under an even one.
  abbrev pub IsToFree : ℕ → Came T → Type 0
  IsToFree count (HasAsked value) = is_even count ≡ false
  IsToFree count (HasFound None) = is_even count ≡ true
  IsToFree count (HasFound (Some value)) = ⊥
  IsToFree count (HasFreed found hid locked) = ⊥

  -- the last visit is of this index and has emptied its cell but not locked; a value is hidden only where one was found
  abbrev pub IsFreed : ℕ → List (ℕ × Came T) → Type 0
  IsFreed index visits =
      (found : Option T) × (hid : Bool) × (before : List (ℕ × Came T))
      × (visits ≡ (index, HasFreed found hid false) ∷ before) × (found ≡ None → hid ≡ false)

  -- what the last visit has come to at each stage of a recovery, where the words that it has copied make this value
  abbrev pub VisitsAt : RecoverStage → T → List (ℕ × Came T) → Type 0
  VisitsAt recovers.LoadsCounter value visits = visits ≡ []
  VisitsAt (recovers.LoadsCell index) value visits = Unit {0}
  VisitsAt (recovers.LoadsCount index) value visits = Unit {0}
  VisitsAt (recovers.LoadsWord index count at) value visits = Unit {0}
  VisitsAt (recovers.ChecksCount index count) value visits = Unit {0}
  VisitsAt (recovers.Asks index count) value visits =
      (before : List (ℕ × Came T)) × (visits ≡ (index, HasAsked value) ∷ before)
  VisitsAt (recovers.EmptiesCell index count) value visits =
      (came : Came T) × (before : List (ℕ × Came T)) × (visits ≡ (index, came) ∷ before) × IsToFree count came
  VisitsAt (recovers.Hides index count) value visits =
      (gone : T) × (before : List (ℕ × Came T)) × (visits ≡ (index, HasFreed (Some gone) false false) ∷ before)
  VisitsAt (recovers.Raises index raise) value visits = IsFreed index visits
  VisitsAt (recovers.Locks index lock) value visits = IsFreed index visits
  VisitsAt recovers.LoadsCounterAgain value visits = Unit {0}
  VisitsAt (recovers.AddsChange state) value visits = Unit {0}

  -- the event of an answer yes that the recovery has heard, of which its visits tell after the next step;
  -- none at other stages
  abbrev pub told_yet : (p owner : ℕ) → RecoverStage → List (Event T)
  told_yet p owner recovers.LoadsCounter = []
  told_yet p owner (recovers.LoadsCell index) = []
  told_yet p owner (recovers.LoadsCount index) = []
  told_yet p owner (recovers.LoadsWord index count at) = []
  told_yet p owner (recovers.ChecksCount index count) = []
  told_yet p owner (recovers.Asks index count) = []
  told_yet p owner (recovers.EmptiesCell index count) =
      if is_even count then [] else Told p index owner ∷ []
  told_yet p owner (recovers.Hides index count) = []
  told_yet p owner (recovers.Raises index raise) = []
  told_yet p owner (recovers.Locks index lock) = []
  told_yet p owner recovers.LoadsCounterAgain = []
  told_yet p owner (recovers.AddsChange state) = []

-- A recovery copies by way of a room that has these words, and beside it keeps what it did, for the proofs alone.
module _ {T R : Type 0} (code : Coding T) (words_in : R → List ℕ) where
  -- the room and the visits of a recovery after a step that was handed this old value
  abbrev pub recover_visits : (R → ℕ → ℕ → R) → DeadOwner → Recovering T R → R × List (ℕ × Came T) → ℕ
      → R × List (ℕ × Came T)
  recover_visits with_word given c m old = (
    recover_kept with_word c m.0 old,
    visits_after given.owner c.stage old (value_there code words_in m.0) m.1,
  )

  -- A recovery of a dead owner's values, by the party that the pass has been, if it has been one. It ends with the
  -- state of the container, and its visits, which are beside its room, tell what it has written.
  abbrev pub recovers_values : DeadOwner → Calling T (Recovering T R) (R × List (ℕ × Came T)) ReleaseState
  recovers_values given =
      record {
        start = Container (Recover given.owner given.mode);
        -- the party that the pass was last makes the call, if the pass has been a party
        by = λ was p. IfSome was (λ q. q ≡ p);
        -- what holds of the call between two steps, and which call of the model is then under way
        stands = λ capacity c.
            (c.capacity ≡ capacity) × RecoverIn code.size capacity given.mode c.stage;
        flight = λ c m. flights.Container
            (calls.Recover
            (record {
              call = record { capacity = c.capacity; stage = c.stage; of = record {} };
              given = given;
              room = room_of code.size (words_in m.0);
            }));
        answer = λ e m. State e;
        -- no word that it loads ends it outside the history
        skips = λ c n. false;
        left = λ e. ⊥;
        -- what was written is known only where the pass has seen the call begin
        wrote = λ capacity p from c m es. from ≡ None
            → VisitsAt c.stage (value_there code words_in m.0) m.1
            × (es ≡ wrote_visits p given.owner m.1 ++ told_yet p given.owner c.stage);
        wrote_all = λ capacity p from e m es. from ≡ None → es ≡ wrote_visits p given.owner m.1;
      }
