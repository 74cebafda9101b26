-- `Sender::finish_all` (src/sender.rt): its return meets the clause `sends`.
use Rattle.std.proofs.Common.{rules, refl}
use Rattle.zero_copy_loans.proofs.Ends.{finishes}
use Rattle.zero_copy_loans.proofs.sender.Sender.finish_all.Goals as goal

pub returns-clause-sends : goal.returns-clause-sends
returns-clause-sends g c = finishes _ _ (search rules) refl (search rules) (search rules) (search rules)
