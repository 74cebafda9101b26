-- `Receiver::finish` (src/receiver.rt): its return meets the clause `receives`.
use Rattle.std.proofs.Common.{rules}
use Rattle.zero_copy_loans.proofs.Ends.{ends}
use Rattle.zero_copy_loans.proofs.receiver.Receiver.finish.Goals as goal

pub returns-clause-receives : goal.returns-clause-receives
returns-clause-receives g c = ends _ _ (search rules) (search rules) (search rules)
