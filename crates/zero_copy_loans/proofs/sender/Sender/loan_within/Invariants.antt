use Rattle.zero_copy_loans.specs.Ends.{KeepsSends}
use Rattle.zero_copy_loans.proofs.sender.Sender.loan_within.Given as given

-- the tries before sent nothing
abbrev pub invariant-loop : given.invariant-loop
invariant-loop g l = KeepsSends l.fn.self l.self
