-- What `advance` does to a call, to what its family keeps, and to the list of events: one step of the model.
use Rattle.std.specs.Prelude.{◌≡◌, List, ◌++◌}
use Rattle.steps.specs.Ask.{CameTo}
use Rattle.model.specs.declared.event.Event.{Event}
use Rattle.model.specs.declared.families.Flight.{Flight}
use Rattle.model.specs.declared.families.Registry.{Registry}
use Rattle.model.specs.declared.families.Went.{Went}
use Rattle.model.specs.Step.{Step}

-- the call, what its family keeps, and what `advance` returns are as this step says, and the
-- step's events were appended
pub record IsOfStep {T : Type 0} (step : Step (Flight T) (Registry T) T) (went : Went T) (flight : Flight T) (registry : Registry T)
    (old new : List (Event T)) : Type 0 where
  pub after : CameTo went.done flight step.after
  pub back : went.back ≡ step.back
  pub kept : registry ≡ step.kept
  pub wrote : new ≡ old ++ step.wrote
