-- What a find and a recovery of a container ask about, and what becomes of the decision that they are given.
use Rattle.std.specs.Prelude.{◌≡◌, ◌≢◌, ℕ, Bool, true, false, Option, Some, None, List, [], ◌∷◌, ◌++◌}
use Rattle.std.specs.List.{AllByRecursion}
use Rattle.steps.specs.declared.container.find.FindStage.{FindStage}
use Rattle.steps.specs.declared.container.find.FindStage.TheVariants as find_stages
use Rattle.steps.specs.declared.container.recover.RecoverStage.{RecoverStage}
use Rattle.steps.specs.declared.container.recover.RecoverStage.TheVariants as recover_stages
use Rattle.steps.specs.declared.indices.enums.ReleaseMode.{ReleaseMode}
use Rattle.model.specs.declared.event.Answer.TheVariants.{Number}
use Rattle.model.specs.declared.event.Event.{Event}
use Rattle.model.specs.declared.event.Event.TheVariants.{Told, Copied, Shown, Finished}
use Rattle.model.specs.declared.event.Start.TheVariants.{Container}
use Rattle.model.specs.declared.families.Flight.{Flight}
use Rattle.model.specs.declared.families.Flight.TheVariants as flights
use Rattle.model.specs.declared.families.container.ContainerStart.TheVariants.{Find, Recover}
use Rattle.model.specs.declared.families.container.calls.ContainerFlight.TheVariants as calls
use Rattle.model.specs.declared.turn.Turn.{Turn}
use Rattle.model.specs.declared.turn.Turn.TheVariants.{Decide}
use Rattle.model.specs.Coding.{Coding}
use Rattle.model.specs.Families.Indices.Robust.Reading.{IsLatest}
use Rattle.model.specs.Families.Container.Reading.{Copies, acts_of}
use Rattle.model.specs.Families.Indices.Robust.Promises.{IsFilledWith, IsIn}
use Rattle.model.specs.Families.Queues.Calls.{read_in}
use Rattle.model.specs.Moments.{HeldSometime}
use Rattle.model.specs.Reading.{Span, Open, span_of}
use Rattle.model.specs.World.{Trace, flight_in}

module _ {T : Type 0} where
  -- ---- the question that is put

  -- the index and the value that a call asks about
  abbrev pub find_question : Coding T → FindStage → T → Option (ℕ × T)
  find_question code (find_stages.Asks index found) value = Some (index, value)
  find_question code stage value = None

  -- the index and the value that a recovery asks about at this stage
  abbrev pub recover_question : Coding T → RecoverStage → T → Option (ℕ × T)
  recover_question code (recover_stages.Asks index count) value = Some (index, value)
  recover_question code stage value = None

  -- the index and the value that the call under way asks about, if it is a find or a recovery at its question
  abbrev pub question_in : Coding T → Option (Flight T) → Option (ℕ × T)
  question_in code (Some (flights.Container (calls.Find run))) =
      find_question code run.call.stage (read_in code run.room)
  question_in code (Some (flights.Container (calls.Recover run))) =
      recover_question code run.call.stage (read_in code run.room)
  question_in code flight = None

  -- the question on whose answer the party's call waits
  abbrev pub question_at : Trace T → ℕ → Option (ℕ × T)
  question_at t p = question_in t.world.coding (flight_in t.world p)

  -- each question is about the value that its call has copied last
  abbrev pub AsksCopies : Trace T → Type 0
  AsksCopies t =
      (p index : ℕ) (value : T) → question_at t p ≡ Some (index, value)
      → IsLatest (Copies index value) (acts_of p t.events)

  -- ---- what a turn writes of it

  -- a find and a recovery come to indices that were their owner's at a moment of the call
  abbrev pub WasOwners : (p index : ℕ) → List (Event T) → Span T → Type 0
  WasOwners p index before (Open (Container (Find owner)) wrote) =
      HeldSometime p (IsFilledWith owner index) before
  WasOwners p index before (Open (Container (Recover owner mode)) wrote) =
      HeldSometime p (IsFilledWith owner index) before
  WasOwners p index before span = Unit {0}

  -- After the turn in which a find or a recovery has copied a value, it waits at a question about that
  -- index and value.
  abbrev pub AsksAtOnce : (p index : ℕ) → T → Trace T → Span T → Type 0
  AsksAtOnce p index value new (Open (Container (Find owner)) wrote) =
      question_at new p ≡ Some (index, value)
  AsksAtOnce p index value new (Open (Container (Recover owner mode)) wrote) =
      question_at new p ≡ Some (index, value)
  AsksAtOnce p index value new span = Unit {0}

  -- An event of the turn is right: a find or a recovery copies, or is shown, an index that was its owner's, asks at
  -- once about what it copies, and only a yes tells a recovery to free one.
  abbrev pub WritesRight : Trace T → Turn T → Trace T → Event T → Type 0
  WritesRight old turn new (Copied p index value) =
      WasOwners p index old.events (span_of p old.events)
      × AsksAtOnce p index value new (span_of p old.events)
  WritesRight old turn new (Shown p index) =
      WasOwners p index old.events (span_of p old.events)
  WritesRight old turn new (Told p index owner) = turn ≡ Decide p true
  WritesRight old turn new e = Unit {0}

  -- Each event that the turn has written is one that `WritesRight` allows.
  pub record AllRight (old : Trace T) (turn : Turn T) (new : Trace T) : Type 0 where
    pub wrote : List (Event T)
    pub is : new.events ≡ old.events ++ wrote
    pub right : AllByRecursion (WritesRight old turn new) wrote

  -- The turn has written this event.
  pub record HasWritten (e : Event T) (old new : Trace T) : Type 0 where
    pub before : List (Event T)
    pub after : List (Event T)
    pub is : new.events ≡ old.events ++ (before ++ e ∷ after)

  -- a question comes in the turn that copies its value, and in no other
  abbrev pub AsksOnce : (old new : Trace T) → Type 0
  AsksOnce old new =
      (p index : ℕ) (value : T) → question_at new p ≡ Some (index, value)
      → question_at old p ≢ Some (index, value)
      → HasWritten (Copied p index value) old new

  -- ---- what becomes of the answer

  -- after a decision the party has no question left
  abbrev pub IsAnswered : Turn T → Trace T → Type 0
  IsAnswered turn new =
      (p : ℕ) (said : Bool) → turn ≡ Decide p said → question_at new p ≡ None

  -- a yes tells a recovery to free the index that it asked about, and the turn writes nothing else
  pub record IsTold (p owner : ℕ) (old new : Trace T) : Type 0 where
    pub index : ℕ
    pub value : T
    pub asked : question_at old p ≡ Some (index, value)
    pub is : new.events ≡ old.events ++ Told p index owner ∷ []

  -- a yes to a recovery tells it to free the index that it asked about, and the turn writes nothing else
  abbrev pub YesTells : Trace T → Turn T → Trace T → Type 0
  YesTells old turn new =
      (p owner : ℕ) (mode : ReleaseMode) → turn ≡ Decide p true
      → IsIn p (Container (Recover owner mode)) old
      → IsTold p owner old new

  -- a no to a recovery writes nothing
  abbrev pub NoTells : Trace T → Turn T → Trace T → Type 0
  NoTells old turn new =
      (p owner : ℕ) (mode : ReleaseMode) → turn ≡ Decide p false
      → IsIn p (Container (Recover owner mode)) old
      → new.events ≡ old.events

  -- What a turn tells of the questions of finds and recoveries: which are put, each once, and what a decision does.
  pub record QuestionsRight (old : Trace T) (turn : Turn T) (new : Trace T) : Type 0 where
    -- Each event that the turn has written is one that `WritesRight` allows.
    pub writes : AllRight old turn new
    -- each question comes with the copy of its value
    pub once : AsksOnce old new
    -- after a decision no question is left
    pub answered : IsAnswered turn new
    -- a yes frees the index that was asked about
    pub yes : YesTells old turn new
    -- a no writes nothing
    pub no : NoTells old turn new

  -- ---- the end of a find

  -- the turn in which a party's find ends
  pub record EndsFind (p owner number : ℕ) (old new : Trace T) : Type 0 where
    pub wrote : List (Event T)
    pub is : new.events
        ≡ old.events ++ (wrote ++ Finished p (Container (Find owner)) (Number number) ∷ [])
