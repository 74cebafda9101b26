-- The law `positions_rise` (src/laws.rt; clauses `published`, `above`, `taken` and `below`): a push publishes right after all that its
-- guard had seen published; a pop takes from right after all that its guard had seen taken.
use Rattle.lock_free_queues.proofs.Queues.Positions.{published_low, taken_low}
use Rattle.lock_free_queues.proofs.Queues.Promised.{published_next, taken_next}
use Rattle.lock_free_queues.proofs.laws.positions_rise.Goals as goal

-- A push publishes at the position right after all that its guard had seen published.
pub returns-clause-published : goal.returns-clause-published
returns-clause-published g c value old new h = published_next old new value h

-- Each position that was seen published lies below the number of published items, which is the next position.
pub returns-clause-above : goal.returns-clause-above
returns-clause-above g c old q j y a = published_low old.seen q j y a

-- A pop takes at the position right after all that its guard had seen taken.
pub returns-clause-taken : goal.returns-clause-taken
returns-clause-taken g c value old new h = taken_next old new value h

-- Each position that was seen taken lies below the number of items that were taken out, which
-- is the next position.
pub returns-clause-below : goal.returns-clause-below
returns-clause-below g c old q j y a = taken_low old.seen q j y a
