-- Sequential objects whose calls put questions to their caller, and what a run has made of its calls.
use Rattle.std.specs.Prelude.{◌≡◌, ℕ, Bool, true, false, Option, Some, None, List, [], ◌∷◌, ◌++◌, map, fold, filter}
use Rattle.std.specs.List.{flat_map}
use Rattle.steps.specs.Routine.{question_with}
use Rattle.steps.specs.declared.ask.Question.{Question}
use Rattle.steps.specs.declared.ask.Question.TheVariants as questions
use Rattle.steps.specs.declared.ask.Want.{Want}
use Rattle.steps.specs.declared.ask.Want.TheVariants as wants
use Rattle.model.specs.declared.event.Answer.{Answer}
use Rattle.model.specs.declared.event.Event.{Event}
use Rattle.model.specs.declared.event.Event.TheVariants.{Finished}
use Rattle.model.specs.declared.event.Start.{Start}
use Rattle.model.specs.declared.families.Flight.{Flight}
use Rattle.model.specs.declared.families.Flight.TheVariants as flights
use Rattle.model.specs.declared.families.container.calls.ContainerFlight.TheVariants.{Find, Recover}
use Rattle.model.specs.declared.turn.Refusal.{Refusal}
use Rattle.model.specs.declared.turn.Turn.{Turn}
use Rattle.model.specs.declared.turn.Turn.TheVariants.{Begin, Next, Decide, Die}
use Rattle.model.specs.Coding.{Coding}
use Rattle.model.specs.Families.{want_of}
use Rattle.model.specs.Families.Queues.Calls.{read_in}
use Rattle.model.specs.Refusals.{refusal_of}
use Rattle.model.specs.Turns.{IsReached, attempt, events_of}
use Rattle.model.specs.World.{World, Trace, opened, flight_in}

-- ---- a sequential object whose calls put questions

-- A call of a dialogue: its party, its name with the arguments, and what its caller decides at
-- its questions, in order.
pub record Request (T : Type 0) : Type 0 where
  pub party : ℕ
  pub start : Start T
  pub decisions : List Bool

-- what a call says: the questions that it puts, in order, and its answer
pub record Reply (T : Type 0) : Type 0 where
  pub questions : List (Question T)
  pub answer : Answer T

-- A sequential object: its first state, and for each call,
-- with what its questions are told, the next state and the reply.
pub record Dialogue (T State : Type 0) : Type 0 where
  pub opening : State
  pub after : State → Request T → State
  pub reply : State → Request T → Reply T

module _ {T State : Type 0} where
  -- what the object `o`, from the state `s` on, replies to calls one after another
  abbrev pub replies_from : Dialogue T State → State → List (Request T) → List (Reply T)
  replies_from o s [] = []
  replies_from o s (call ∷ calls) = o.reply s call ∷ replies_from o (o.after s call) calls

  -- each call of the list has the reply of the object, call after call from its opening on
  abbrev pub RepliesAs : Dialogue T State → List (Request T × Reply T) → Type 0
  RepliesAs o calls =
      replies_from o o.opening (map (λ x. x.0) calls) ≡ map (λ x. x.1) calls

  -- the object's state after the calls, from its opening on
  abbrev pub stands_after : Dialogue T State → List (Request T × Reply T) → State
  stands_after o calls = fold o.after o.opening (map (λ x. x.0) calls)

-- ---- the calls of a run

-- a question that was put to a caller, and what the caller decided
pub record Decision (T : Type 0) : Type 0 where
  pub question : Question T
  pub yes : Bool

-- what the call under way was told since it began, and the calls that have finished
pub record Story (T : Type 0) : Type 0 where
  pub told : List (Decision T)
  pub calls : List (Request T × Reply T)

module _ {T : Type 0} where
  -- a question, with the value that it shows
  abbrev pub showing : Option T → Question (Unit {0}) → Question T
  showing (Some value) question = question_with value question
  showing None (questions.Index index) = questions.Index index
  showing None (questions.Owned owner index) = questions.Owned owner index
  showing None (questions.Value index unit) = questions.Index index

  -- the value that a call shows at its questions: in a container the copy that it has made
  abbrev pub value_shown : Coding T → Flight T → Option T
  value_shown code (flights.Container (Find run)) = Some (read_in code run.room)
  value_shown code (flights.Container (Recover run)) = Some (read_in code run.room)
  value_shown code flight = None

  -- What a call that waits at this stage is told by a decision: its question, with the value that it shows, and yes
  -- or no. A call that waits for none is told nothing.
  abbrev pub decided_at : Option T → Want (Unit {0}) → Bool → List (Decision T)
  decided_at value (wants.Question question) said =
      record { question = showing value question; yes = said } ∷ []
  decided_at value want said = []

  -- What a call under way is told by a decision. Without a call it is nothing.
  abbrev pub decided : Coding T → Option (Flight T) → Bool → List (Decision T)
  decided code None said = []
  decided code (Some flight) said = decided_at (value_shown code flight) (want_of code flight) said

  -- what the call under way was told since it began, after a turn that is not refused
  abbrev pub told_after : World T → Turn T → List (Decision T) → List (Decision T)
  told_after w (Begin p start) told = []
  told_after w (Next p) told = told
  told_after w (Decide p said) told = told ++ decided w.coding (flight_in w p) said
  told_after w (Die owner) told = told

  -- a finished call of party `p`, as a request and as a reply, by what it was told
  abbrev pub as_request : ℕ → Start T → List (Decision T) → Request T
  as_request p start told = record { party = p; start = start; decisions = map (λ d. d.yes) told }

  -- a call's reply: the questions that it put while it was told these decisions, and its answer
  abbrev pub as_reply : List (Decision T) → Answer T → Reply T
  as_reply told answer = record { questions = map (λ d. d.question) told; answer = answer }

  -- the call that an event finishes, if it finishes one, with what it was told
  abbrev pub finished_in : List (Decision T) → Event T → List (Request T × Reply T)
  finished_in told (Finished p start answer) =
      (as_request p start told, as_reply told answer) ∷ []
  finished_in told e = []

  -- the story after a turn that is not refused
  abbrev pub story_after : World T → Turn T → Story T → Story T
  story_after w turn story =
      record {
        told = told_after w turn story.told;
        calls = story.calls
            ++ flat_map (finished_in (told_after w turn story.told)) (events_of w turn);
      }

  -- The story after a turn that leads to `new`, or the old one if the turn was refused.
  abbrev pub unless_refused : (old new : Story T) → Option Refusal → Story T
  unless_refused old new None = new
  unless_refused old new (Some refusal) = old

  -- the story after turns, one after another, from the trace `t` on; a refused turn changes nothing
  abbrev pub story_on : List (Turn T) → Trace T → Story T → Story T
  story_on [] t story = story
  story_on (turn ∷ turns) t story =
      story_on turns (attempt t turn)
      (unless_refused story (story_after t.world turn story) (refusal_of t.world turn))

  -- the story of a run: what its turns have made of its calls, from its opening on
  abbrev pub story_of : (t : Trace T) → IsReached t → Story T
  story_of t r =
      story_on r.turns (opened t.world.coding t.world.kind t.world.capacity r.queue t.world.parties)
      (record { told = []; calls = [] })

  -- The finished calls of a run, each with what it asked and was told since the latest begin. In a whole run every
  -- decision between that begin and the end is this call's own.
  abbrev pub calls_of : (t : Trace T) → IsReached t → List (Request T × Reply T)
  calls_of t r = (story_of t r).calls

  -- ---- the ends of calls

  -- whether a call ends with the event
  abbrev pub is_end : Event T → Bool
  is_end (Finished p start answer) = true
  is_end e = false

  -- the event with which a call and its reply ended
  abbrev pub as_end : Request T × Reply T → Event T
  as_end x = Finished x.0.party x.0.start x.1.answer

  -- `calls` are all the calls that end in `events`, in order
  abbrev pub AreFinished : List (Request T × Reply T) → List (Event T) → Type 0
  AreFinished calls events = map as_end calls ≡ filter is_end events
