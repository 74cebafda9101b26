-- The law `closes_lose_nothing` (src/laws.rt; clauses `bounded` and `overflowing`): a `close` loses
-- nothing. What the history at the moment of which `close` tells has published is what it has taken
-- out, then the numbers that the list of an overflowing queue leaves out, and then the list.
use Rattle.lock_free_queues.proofs.Queues.Closes.{closed_book}
use Rattle.lock_free_queues.proofs.Queues.OverCloses.{over_closed_book}
use Rattle.lock_free_queues.proofs.laws.closes_lose_nothing.Goals as goal

-- Of a bounded queue, what was published is what was taken out, and then the list.
pub returns-clause-bounded : goal.returns-clause-bounded
returns-clause-bounded g c named code kind capacity at q h waits = closed_book named code kind capacity at q h waits

-- Of an overflowing queue, the numbers that the list leaves out stand between what was
-- taken out and the list.
pub returns-clause-overflowing : goal.returns-clause-overflowing
returns-clause-overflowing g c capacity at older q h waits = over_closed_book capacity at older q h waits
