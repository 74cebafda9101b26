-- What holds of a container that a run leads to in which nobody sees an owner die, as between threads.
use Rattle.std.specs.Prelude.{◌≡◌, ℕ, ◌-◌, ◌^◌, ◌<◌, ◌==◌, ◌&&◌, Bool, true, false, not, Option, Some, List, [], ◌∷◌, slice_index}
use Rattle.steps.specs.Indices.Robust.Parts.{cell_word, locked, greatest}
use Rattle.model.specs.declared.event.Event.{Event}
use Rattle.model.specs.declared.families.Flight.{Flight}
use Rattle.model.specs.declared.families.Flight.TheVariants as flights
use Rattle.model.specs.declared.turn.Turn.{Turn}
use Rattle.model.specs.declared.turn.Turn.TheVariants.{Next}
use Rattle.model.specs.Families.Container.Looks.{ShowsCopies}
use Rattle.model.specs.Families.Container.Promises.{IsWellFormedRun, IsContained, KeepsDead}
use Rattle.model.specs.Families.Container.Questions.{AsksCopies}
use Rattle.model.specs.Families.Indices.Reading.{is_locked}
use Rattle.model.specs.Families.Indices.Robust.Promises.{cell_of, SetDoes, IsWellFormed, HoldsRight}
use Rattle.model.specs.Families.Indices.Robust.Reading.{filled_of, is_dead}
use Rattle.model.specs.Reading.{Each}
use Rattle.model.specs.World.{Trace, opening, flight_in}
use Rattle.laws_robust.specs.Gone.{Word, IsHonest}
use Rattle.model.specs.Open.{attempt_open, IsReachedOpen}
use Rattle.laws_container.specs.Gone.{AsksBy, RecoversBy, AnswersBy, acts_for_gone}

module _ {T : Type 0} where
  -- ---- a faithful run: nobody takes a step for an owner who is gone

  -- whether the call under way acts for an owner who is gone
  abbrev pub is_for_gone : List (Event T) → Option (Flight T) → Bool
  is_for_gone events (Some (flights.Container flight)) = acts_for_gone Word events flight
  is_for_gone events flight = false

  -- whether the turn is a step for an owner who is gone
  abbrev pub steps_for_gone : Trace T → Turn T → Bool
  steps_for_gone t (Next p) = is_for_gone t.events (flight_in t.world p)
  steps_for_gone t turn = false

  -- whether none of these turns is a step for an owner who is gone
  abbrev pub is_faithful : List (Turn T) → Trace T → Bool
  is_faithful [] t = true
  is_faithful (turn ∷ turns) t = not (steps_for_gone t turn) && is_faithful turns (attempt_open t turn)

  -- no turn of the run is a step for an owner who is gone
  abbrev pub IsFaithful : (t : Trace T) → IsReachedOpen t → Type 0
  IsFaithful t r =
      is_faithful r.turns (opening t.world.coding t.world.kind t.world.capacity t.world.parties) ≡ true

  -- the run is faithful, and of so few turns that no number of an element has come round
  pub record IsFaithfulRun (t : Trace T) (r : IsReachedOpen t) : Type 0 where
    pub faithful : IsFaithful t r
    pub few : t.world.turns < 2 ^ 64 - 2

  -- ---- what holds of the machine

  -- What holds of an open container in any run: what its cells and its counter hold by the events,
  -- what each event says, that nobody has died, and what questions and states show. In a well-formed
  -- and honest run also who holds an index; and in one that is well-formed, faithful and of few turns
  -- what its elements hold.
  pub record IsOpenContainer (t : Trace T) (r : IsReachedOpen t) : Type 0 where
    -- each event fills, grants or frees an index, or locks the set, only as `SetDoes` allows
    pub does : Each (SetDoes t.world.capacity) t.events
    -- each question of a recovery is one that `AsksBy` allows
    pub asks : Each (AsksBy Word) t.events
    -- each index that a recovery frees is one that `RecoversBy` allows
    pub recovers : Each (RecoversBy Word) t.events
    -- each answer says what `AnswersBy` asks of it
    pub answers : Each (AnswersBy Word (slice_index t.world.words 0 ≡ greatest) t.world.capacity) t.events
    -- each cell says for whom its index is filled
    pub cells : (index : ℕ) → index < t.world.capacity
        → slice_index t.world.words (cell_word index) ≡ cell_of (filled_of index t.events)
    -- the counter says whether the container is locked
    pub lock : (slice_index t.world.words 0 == locked) ≡ is_locked t.events
    -- nobody has died
    pub lives : (owner : ℕ) → is_dead owner t.events ≡ false
    pub dead : KeepsDead t.world.kept t.events
    -- each question is about the value that was copied last
    pub questions : AsksCopies t
    -- each state shows what its party has copied
    pub states : ShowsCopies t.world t.events
    -- in a well-formed and honest run no index is granted that is held
    pub holds : IsWellFormed t.events → IsHonest t.events → Each HoldsRight t.events
    -- a faithful run is honest
    pub honest : IsFaithful t r → IsHonest t.events
    -- what is promised of a run that is well-formed, faithful and of few turns
    pub contained : IsWellFormedRun t → IsFaithfulRun t r → IsContained t
