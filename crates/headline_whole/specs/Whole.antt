-- Runs in which calls run whole, and what they answer.
use Rattle.std.specs.Prelude.{ℕ, Bool, List, [], ◌∷◌, if◌then◌else◌}
use Rattle.std.specs.List.{flat_map}
use Rattle.model.specs.declared.event.Answer.{Answer}
use Rattle.model.specs.declared.event.Event.{Event}
use Rattle.model.specs.declared.event.Event.TheVariants.{Begun, Finished}
use Rattle.model.specs.declared.event.Start.{Start}
use Rattle.model.specs.Linearizable.{Specification}
use Rattle.model.specs.Objects.{IsLegal}
use Rattle.model.specs.Reading.{span_of}
use Rattle.model.specs.Shape.{IsShut}
use Rattle.headline.specs.Moments.{Follows}

module _ {T : Type 0} where
  -- each call begins where no call is under way
  abbrev pub RunsWhole : List (Event T) → Type 0
  RunsWhole events =
      (p : ℕ) (start : Start T) (before : List (Event T))
      → Follows (Begun p start) before events
      → (q : ℕ) → IsShut (span_of q before)

  -- the call that ends with this event, if it is one of those that `is_call` picks, with its answer
  abbrev pub answer_in : (Start T → Bool) → Event T → List (Start T × Answer T)
  answer_in is_call (Finished p start answer) = if is_call start then (start, answer) ∷ [] else []
  answer_in is_call e = []

  -- the calls of this kind that have finished, with their answers, in order
  abbrev pub answered : (Start T → Bool) → List (Event T) → List (Start T × Answer T)
  answered is_call events = flat_map (answer_in is_call) events

  -- The finished calls of the object, one after another from its opening on, gave the answers
  -- that the object gives.
  abbrev pub AnswersAs : {State : Type 0} → Specification T State → List (Event T) → Type 0
  AnswersAs spec events = IsLegal spec.object (answered spec.is_call events)
