-- The law `emptied_queues_were_empty` (src/laws/loans.rt): in a queue that was emptied nothing waited at one moment behind what its
-- guard had seen.
use Rattle.lock_free_loans.proofs.Loan.Contracts.{emptied_once}
use Rattle.lock_free_loans.proofs.laws.loans.emptied_queues_were_empty.Goals as goal

pub returns : goal.returns
returns c old new h = emptied_once old new h
