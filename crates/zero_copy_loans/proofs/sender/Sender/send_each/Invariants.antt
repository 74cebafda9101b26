use Rattle.zero_copy_loans.specs.Ends.{HasSent}
use Rattle.zero_copy_loans.proofs.sender.Sender.send_each.Given as given

-- the loop has sent `counter` values, and `back` has the numbers of those that came back
abbrev pub invariant-loop : given.invariant-loop
invariant-loop g l = HasSent l.counter l.back.items l.fn.self l.self
