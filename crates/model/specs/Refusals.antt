-- Which turns a machine refuses, and for which reason: tables of tests, of which the first that
-- applies gives the refusal.
use Rattle.std.specs.Prelude.{◌≡◌, ◌⊎◌, ℕ, ◌-◌, ◌^◌, Bool, false, not, Option, Some, None, is_some, is_none, List, ◌∷◌, nat_le}
use Rattle.model.specs.declared.families.Flight.{Flight}
use Rattle.model.specs.declared.turn.Turn.{Turn}
use Rattle.model.specs.declared.turn.Turn.TheVariants.{Begin, Next, Decide, Die}
use Rattle.model.specs.declared.turn.Refusal.{Refusal}
use Rattle.model.specs.declared.turn.Refusal.TheVariants.{NoParty, Busy, Idle, Undecided, NoMemory, AtEnd}
use Rattle.model.specs.Coding.{Coding}
use Rattle.model.specs.Families.{begin_rows, going_rows, lacks_party, death_rows, want_of, is_question}
use Rattle.model.specs.Rows.{first_row}
use Rattle.model.specs.World.{World, flight_in}

module _ {T : Type 0} where
  -- whether a decision is due: the call under way is at a question
  abbrev pub is_due : Coding T → Option (Flight T) → Bool
  is_due code None = false
  is_due code (Some flight) = is_question (want_of code flight)

  -- whether a call is under way that needs no decision to go on
  abbrev pub goes : Coding T → Option (Flight T) → Bool
  goes code None = false
  goes code (Some flight) = not (is_question (want_of code flight))

  -- whether the party has a call under way that goes on without a decision
  abbrev pub is_going : World T → ℕ → Bool
  is_going w p = goes w.coding (flight_in w p)

  -- whether the machine is at its last turn, 2^64 - 2
  abbrev pub is_at_end : World T → Bool
  is_at_end w = nat_le (2 ^ 64 - 2) w.turns

  -- The tests of a turn that concern the call or the owner, in order, with the refusal for each.
  -- Those of the family come last.
  abbrev pub call_rows : World T → Turn T → List (Bool × Refusal)
  call_rows w (Begin p start) =
      (is_some (flight_in w p), Busy) ∷ begin_rows w.kind w.capacity w.kept p start
  call_rows w (Next p) =
      (is_none (flight_in w p), Idle)
      -- the call waits at a question for a decision
      ∷ (is_due w.coding (flight_in w p), Undecided)
      ∷ going_rows w.coding w.kept (flight_in w p) None
  call_rows w (Decide p said) =
      (is_none (flight_in w p), Idle)
      -- the call waits for no decision
      ∷ (not (is_due w.coding (flight_in w p)), Undecided)
      ∷ going_rows w.coding w.kept (flight_in w p) (Some said)
  call_rows w (Die owner) = death_rows w.kept owner

  -- All tests of a turn, in order: first whether the machine is at its last turn, then whether the
  -- party exists, then those of the call or the owner.
  abbrev pub rows_of : World T → Turn T → List (Bool × Refusal)
  rows_of w (Begin p start) =
      (is_at_end w, AtEnd) ∷ (nat_le w.parties p, NoParty) ∷ call_rows w (Begin p start)
  rows_of w (Next p) =
      (is_at_end w, AtEnd) ∷ (nat_le w.parties p, NoParty) ∷ call_rows w (Next p)
  rows_of w (Decide p said) =
      (is_at_end w, AtEnd) ∷ (nat_le w.parties p, NoParty) ∷ call_rows w (Decide p said)
  rows_of w (Die owner) =
      (is_at_end w, AtEnd) ∷ (lacks_party w.kept w.parties owner, NoParty) ∷ call_rows w (Die owner)

  -- Why a turn is refused, or None, where neither the number of turns nor the parties' numbers have a bound.
  abbrev pub call_refusal : World T → Turn T → Option Refusal
  call_refusal w turn = first_row (call_rows w turn)

  -- why a turn is refused, if it is
  abbrev pub refusal_of : World T → Turn T → Option Refusal
  refusal_of w turn = first_row (rows_of w turn)

  -- a refusal names the first row that applies; where none does, memory was refused
  abbrev pub IsRefusal : World T → Turn T → Refusal → Type 0
  IsRefusal w turn refusal =
      (refusal_of w turn ≡ Some refusal) ⊎ (refusal_of w turn ≡ None) × (refusal ≡ NoMemory)
