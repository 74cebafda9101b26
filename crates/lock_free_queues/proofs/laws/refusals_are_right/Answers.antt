-- The law `refusals_are_right` (src/laws.rt; clauses `empty` and `full`): where a pop found nothing, each position that its guard had
-- seen published had been taken; where a push found the queue full, each that its guard had seen taken lies more than the capacity below
-- the next to be published.
use Rattle.lock_free_queues.proofs.Queues.Promised.{sound, none_later_than, full_above}
use Rattle.lock_free_queues.proofs.laws.refusals_are_right.Goals as goal

-- Where a pop found nothing, each position that its guard had seen published had been taken.
pub returns-clause-empty : goal.returns-clause-empty
returns-clause-empty g c old new h q j y a = none_later_than old new h q j y a

-- Where a push found the queue full, each position that its guard had seen taken lies more than the
-- capacity below the next to be published.
pub returns-clause-full : goal.returns-clause-full
returns-clause-full g c code kind capacity item old new b has h q j y a = full_above old new capacity item (sound code kind capacity new b has) h q j y a
