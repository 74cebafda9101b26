-- Open runs of a robust index set, or of a container, in which nobody sees an owner die, as between
-- threads: no owner dies, no yes of a recovery and no begin of a container's recovery is refused, and
-- neither turns nor parties have a bound.
use Rattle.std.specs.Prelude.{Bool, true, not, Option, is_some, is_none, List, [], ◌∷◌}
use Rattle.model.specs.declared.event.Start.TheVariants.{Container}
use Rattle.model.specs.declared.families.container.ContainerStart.TheVariants.{Recover}
use Rattle.model.specs.declared.turn.Turn.{Turn}
use Rattle.model.specs.declared.turn.Turn.TheVariants.{Begin, Decide, Die}
use Rattle.model.specs.declared.turn.Refusal.{Refusal}
use Rattle.model.specs.declared.turn.Refusal.TheVariants.{WrongCall, Busy, Idle, Undecided}
use Rattle.model.specs.Families.{first_of}
use Rattle.model.specs.Refusals.{is_due, call_rows}
use Rattle.model.specs.Rows.{first_row}
use Rattle.model.specs.Turns.{attempt_by, run_by, IsReachedBy}
use Rattle.model.specs.World.{World, Trace, flight_in}

module _ {T : Type 0} where
  -- what is tested of a turn of an open run, in order
  abbrev pub open_rows : World T → Turn T → List (Bool × Refusal)
  open_rows w (Decide p said) =
      (is_none (flight_in w p), Idle)
      ∷ (not (is_due w.coding (flight_in w p)), Undecided)
      ∷ []
  open_rows w (Die owner) = (true, WrongCall) ∷ []
  open_rows w (Begin p (Container (Recover owner mode))) =
      (is_some (flight_in w p), Busy)
      ∷ (is_none (first_of w.kind w.capacity (Container (Recover owner mode)) w.kept), WrongCall)
      ∷ []
  open_rows w turn = call_rows w turn

  -- why an open run refuses a turn, if it does
  abbrev pub open_refusal : World T → Turn T → Option Refusal
  open_refusal w turn = first_row (open_rows w turn)

  -- the run with one turn more, which changes nothing where it is refused
  abbrev pub attempt_open : Trace T → Turn T → Trace T
  attempt_open = attempt_by open_refusal

  -- the run with these turns, one after another, of which those that are refused change nothing
  abbrev pub run_open : List (Turn T) → Trace T → Trace T
  run_open = run_by open_refusal

  -- turns of an open run lead from the opening to this trace
  abbrev pub IsReachedOpen : Trace T → Type 0
  IsReachedOpen = IsReachedBy open_refusal
