-- What stands before an event of a history.
use Rattle.std.specs.Prelude.{◌≡◌, List, ◌∷◌, ◌++◌}
use Rattle.model.specs.declared.event.Event.{Event}

module _ {T : Type 0} where
  -- wherever the event `e` stands in the history, `IsSo` holds of the events before it
  abbrev pub Whenever : List (Event T) → Event T → (List (Event T) → Type 0) → Type 0
  Whenever events e IsSo = (before after : List (Event T)) → events ≡ before ++ e ∷ after → IsSo before
