use Rattle.zero_copy_loans.specs.Ends.{HasRead}
use Rattle.zero_copy_loans.proofs.receiver.Receiver.read_each.Given as given

-- `told` has what was told of each value that was received
abbrev pub invariant-loop : given.invariant-loop
invariant-loop g l = HasRead g.R.Reads.tells l.told.items l.fn.self l.self
