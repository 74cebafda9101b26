-- How many bits were cleared, and how much was taken out of all counts, by a list of events.
use Rattle.std.specs.Prelude.{ℕ, List, sum_by}
use Rattle.model.specs.declared.event.Event.{Event}
use Rattle.model.specs.declared.event.Event.TheVariants.{Cleared, TakenOut}

module _ {T : Type 0} where
  -- 1 for an event that clears a bit
  abbrev pub clear : Event T → ℕ
  clear (Cleared p place) = 1
  clear e = 0

  -- how many bits were cleared in all
  abbrev pub cleared : List (Event T) → ℕ
  cleared events = sum_by clear events

  -- how much the event takes out of a count
  abbrev pub taken_out : Event T → ℕ
  taken_out (TakenOut p place number) = number
  taken_out e = 0

  -- how much was taken out of counts in all
  abbrev pub taken : List (Event T) → ℕ
  taken events = sum_by taken_out events
