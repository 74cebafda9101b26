-- What holds of a turn that a machine takes, whether its owners die or the run is open.
use Rattle.laws_machine.proofs.Names.{◌≡◌, ℕ, true, Option, Some, None, refl, subst}
use Rattle.laws_machine.proofs.Names.{Flight, Turn, Begin, is_due, is_question}
use Rattle.laws_machine.proofs.Names.{want_of, World, flight_in}
use Rattle.model.specs.Refusals.{call_refusal}
use Rattle.model.proofs.Rows.{MayStart, possible_on}
use Rattle.model.specs.Open.{open_refusal}
use Rattle.lemmas.proofs.Open.{possible_open}
use Rattle.laws_container.proofs.Allowed.{IsAllowed, allowed_by, allowed_open}

module _ {T : Type 0} where
  -- the party has a call that waits for a decision
  pub record IsAsking (w : World T) (p : ℕ) : Type 0 where
    pub flight : Flight T
    pub is : flight_in w p ≡ Some flight
    pub due : is_question (want_of w.coding flight) ≡ true

  -- a party for which a decision is due has a call under way
  due_is : (w : World T) (o : Option (Flight T)) → is_due w.coding o ≡ true → (flight : Flight T) × (o ≡ Some flight)
  due_is w None due = absurd (cc)
  due_is w (Some flight) due = (flight, refl)

  -- where a decision is due for the party, it has a call that waits for one
  pub decides : {w : World T} {p : ℕ} → is_due w.coding (flight_in w p) ≡ true → IsAsking w p
  decides {w} {p} due =
      let flies = due_is w (flight_in w p) due in
      record { flight = flies.0; is = flies.1; due = subst (λ o. is_due w.coding o ≡ true) flies.1 due }

  -- ---- any turn

  -- the conditions of a turn: of a begin those of a begin, else those of any turn
  abbrev pub IsTaken : World T → Turn T → Type 0
  IsTaken w (Begin p start) = MayStart w p start
  IsTaken w turn = IsAllowed w turn

  -- a turn that the machine takes is one that it allows
  pub allowed : (w : World T) (turn : Turn T) → IsTaken w turn → IsAllowed w turn
  allowed w (Begin p start) taken = tt
  allowed w turn taken = taken

  -- a turn that a machine whose owners die does not refuse is taken
  pub taken_by : (w : World T) (turn : Turn T) → call_refusal w turn ≡ None → IsTaken w turn
  taken_by w (Begin p start) not_refused = possible_on w (Begin p start) not_refused
  taken_by w turn not_refused = allowed_by w turn not_refused

  -- a turn that an open run does not refuse is taken
  pub taken_open : (w : World T) (turn : Turn T) → open_refusal w turn ≡ None → IsTaken w turn
  taken_open w (Begin p start) not_refused = possible_open w (Begin p start) not_refused
  taken_open w turn not_refused = allowed_open w turn not_refused
