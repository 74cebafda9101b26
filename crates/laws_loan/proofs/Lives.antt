-- A party whose call goes on is alive, since the rows did not refuse its step.
use Rattle.laws_loan.proofs.Names.{◌≡◌, ℕ, Bool, false, Option, Some, None, LoanFlight, Coding, going_rows, has_died}
use Rattle.laws_loan.proofs.Names.{first_row, Trace}
use native.Mathlib.Omega.{arith}
use Rattle.model.specs.declared.families.Flight.TheVariants as flights
use Rattle.model.specs.Families.Loan.Calls.{party_of}
use Rattle.model.proofs.Frame as frame
use Rattle.laws_loan.proofs.StepLaw.{channel}

module _ {T : Type 0} (code : Coding T) (slots queue : ℕ) (t : Trace T) (sound : frame.Sound (channel code slots queue) t) (flight : LoanFlight) where
  -- where no row refuses a call's step, its party has not died
  pub lives : (said : Option Bool)
      → first_row (going_rows t.world.coding t.world.kept (Some (flights.Loan flight)) said) ≡ None
      → has_died (party_of flight) sound.state.book.dead ≡ false
  lives = grind arith
