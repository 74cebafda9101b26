-- What holds of a pass between two of its calls (`IsIdle`): it has no call under way, or its last call
-- is a find that an answer has ended, which rests at its question.
use Rattle.std.specs.Prelude.{◌≡◌, ℕ, Bool, true, false, Option, Some, None}
use Rattle.steps.specs.declared.container.find.FindStage.{FindStage}
use Rattle.steps.specs.declared.container.find.FindStage.TheVariants as finds
use Rattle.model.specs.declared.event.Start.{Start}
use Rattle.model.specs.declared.families.Flight.{Flight}
use Rattle.model.specs.declared.families.Flight.TheVariants as flights
use Rattle.model.specs.declared.families.container.calls.ContainerFlight.TheVariants as calls
use Rattle.history.specs.declared.view.View.{View}

-- the find stands at its question
abbrev pub asks : FindStage → Bool
asks (finds.LoadsCell index found) = false
asks (finds.LoadsCount index found) = false
asks (finds.LoadsWord index found count at) = false
asks (finds.ChecksCount index found count) = false
asks (finds.Asks index found) = true

module _ {T : Type 0} where
  -- the call is a find that stands at its question
  abbrev pub is_at_question : Flight T → Bool
  is_at_question (flights.Container (calls.Find run)) = asks run.call.stage
  is_at_question flight = false

  -- a pass of this party may have this call under way between two of its calls: none, or a
  -- find at its question
  abbrev pub may_rest : Option ℕ → Option (Start T × Flight T) → Bool
  may_rest party None = true
  may_rest None (Some at) = false
  may_rest (Some p) (Some (start, flight)) = is_at_question flight

  -- the pass has no call under way, or a find that rests at its question
  abbrev pub IsIdle : View T → Type 0
  IsIdle v = may_rest v.party v.going ≡ true
