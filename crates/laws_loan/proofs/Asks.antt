-- No call of a loan channel asks a question.
use Rattle.laws_loan.proofs.Names.{◌≡◌, false, LoanFlight, is_question, want}
use native.Mathlib.Omega.{arith}

-- no call of a channel asks a question
pub never_asks : (flight : LoanFlight) → is_question (want flight) ≡ false
never_asks = grind arith
