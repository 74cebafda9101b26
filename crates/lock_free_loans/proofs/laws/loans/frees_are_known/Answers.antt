-- The law `frees_are_known` (src/laws/loans.rt): what a pass knew after each of several frees in turn is a run too; it is a beginning of
-- the run that the pass knows in the end.
use Rattle.lock_free_loans.proofs.Loan.Known.{known_in_turn}
use Rattle.lock_free_loans.proofs.laws.loans.frees_are_known.Goals as goal

pub returns : goal.returns
returns c is capacity old new each known knows = known_in_turn is capacity old new each known knows
