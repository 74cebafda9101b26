-- The law `positions_stay` (src/laws.rt; clauses `published` and `taken`): what was
-- published or taken at a position stays published or taken there as the history goes on.
use Rattle.lock_free_queues.proofs.Queues.Positions.{still_published, still_taken}
use Rattle.lock_free_queues.proofs.laws.positions_stay.Goals as goal

-- What was published at a position stays published there.
pub returns-clause-published : goal.returns-clause-published
returns-clause-published g c p i x old new h a = still_published p p i x x old new h a

-- What was taken at a position stays taken there.
pub returns-clause-taken : goal.returns-clause-taken
returns-clause-taken g c p i x old new h a = still_taken p p i x x old new h a
