-- The conditions of a turn that an open run takes.
use Rattle.model.proofs.Names.{◌≡◌, not, None, is_none, is_due, flight_in, ℕ}
use Rattle.model.specs.declared.event.Start.TheVariants.{Container}
use Rattle.model.specs.declared.turn.Turn.{Turn}
use Rattle.model.specs.declared.turn.Turn.TheVariants.{Begin, Next, Decide, Die}
use Rattle.model.specs.declared.families.container.ContainerStart.TheVariants.{Recover}
use Rattle.model.specs.declared.event.Start.{Start}
use Rattle.model.specs.declared.turn.Refusal.TheVariants.{Busy, Idle, Undecided, WrongCall}
use Rattle.model.specs.Families.{first_of}
use Rattle.model.specs.World.{World}
use Rattle.std.proofs.Common.{is_some}
use Rattle.model.proofs.Frame.{is_true}
use Rattle.model.proofs.Rows.{MayStart, IsPossible, possible_on, not_none, not_some, row_passed}
use Rattle.model.specs.Open.{open_refusal}

module _ {T : Type 0} where
  -- a begin that an open run does not refuse may start
  pub starts_open : (w : World T) (p : ℕ) (start : Start T) → open_refusal w (Begin p start) ≡ None → MayStart w p start
  starts_open w p (Container (Recover owner mode)) not_refused =
      let start : Start T = Container (Recover owner mode) in
      let free = row_passed (is_some (flight_in w p)) Busy _ not_refused in
      let call = row_passed (is_none (first_of w.kind w.capacity start w.kept)) WrongCall None free.1 in
      record { free = not_some (flight_in w p) free.0; call = call.0 }
  starts_open w p start not_refused = possible_on w (Begin p start) not_refused

  -- a turn that an open run does not refuse is possible
  pub possible_open : (w : World T) (turn : Turn T) → open_refusal w turn ≡ None → IsPossible w turn
  possible_open w (Begin p start) not_refused = starts_open w p start not_refused
  possible_open w (Next p) not_refused = possible_on w (Next p) not_refused
  possible_open w (Decide p said) not_refused =
      let some = row_passed (is_none (flight_in w p)) Idle _ not_refused in
      let due = row_passed (not (is_due w.coding (flight_in w p))) Undecided None some.1 in
      let flies = not_none (flight_in w p) some.0 in
      (record { flight = flies.0; is = flies.1 }, is_true (is_due w.coding (flight_in w p)) due.0)
  possible_open w (Die owner) not_refused = absurd (cc)
