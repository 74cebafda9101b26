-- The law `overflowing_takes_in_order` (src/laws.rt; clauses `taken` and `none`): what leaves an overflowing queue stood at a position
-- above all that its guard had seen taken; where a pop found nothing, each position that its guard had seen published had been taken.
use Rattle.lock_free_queues.proofs.Queues.Promised.{taken_first, none_waited}
use Rattle.lock_free_queues.proofs.laws.overflowing_takes_in_order.Goals as goal

-- What leaves the queue stood at a position above all that its guard had seen taken.
pub returns-clause-taken : goal.returns-clause-taken
returns-clause-taken g c item old new h = taken_first old new item h

-- Where a pop found nothing, each position that its guard had seen published had been taken.
pub returns-clause-none : goal.returns-clause-none
returns-clause-none g c old new h q j y a = none_waited old new h q j y a
