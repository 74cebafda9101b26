-- No call of a queue asks a question.
use Rattle.laws_queues.proofs.Names.{◌≡◌, false, QueueFlight, Coding, is_question, want}
use native.Mathlib.Omega.{arith}

-- no call of a queue asks a question
pub never_asks : {T : Type 0} → (en : Coding T) (flight : QueueFlight T) → is_question (want en flight) ≡ false
never_asks = grind arith
