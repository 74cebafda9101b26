-- What a turn that is not refused satisfies, on a machine whose owners die or in an open run.
use Rattle.laws_container.proofs.Names.{◌≡◌, true, None, arith, Turn, Next, Decide, is_due, call_refusal, World}
use Rattle.laws_container.proofs.Names.{flight_in, must_be_due, open_refusal}

module _ {T : Type 0} where
  abbrev pub IsAllowed : World T → Turn T → Type 0
  IsAllowed w (Next p) = call_refusal w (Next p) ≡ None
  IsAllowed w (Decide p said) = is_due w.coding (flight_in w p) ≡ true
  IsAllowed w turn = Unit {0}

  -- a turn that a machine whose owners die does not refuse is allowed
  pub allowed_by : (w : World T) (turn : Turn T) → call_refusal w turn ≡ None → IsAllowed w turn
  allowed_by = grind (arith, must_be_due)

  -- a turn that an open run does not refuse is allowed
  pub allowed_open : (w : World T) (turn : Turn T) → open_refusal w turn ≡ None → IsAllowed w turn
  allowed_open w turn unrefused = grind arith
