-- A machine of whose events the first ones were forgotten.
use Rattle.std.specs.Prelude.{List, ◌++◌}
use Rattle.model.specs.declared.event.Event.{Event}
use Rattle.model.specs.Turns.{IsReached}
use Rattle.model.specs.World.{Trace}

module _ {T : Type 0} where
  -- the machine with these events before its own
  abbrev pub behind : List (Event T) → Trace T → Trace T
  behind before t = record { world = t.world; events = before ++ t.events }

  -- with some events before its own it is a machine that turns lead to from an opening
  pub record IsReachedBehind (t : Trace T) : Type 0 where
    pub before : List (Event T)
    pub reached : IsReached (behind before t)
