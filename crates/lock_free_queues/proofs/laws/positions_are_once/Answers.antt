-- The law `positions_are_once` (src/laws.rt; clauses `published` and `taken`): no position is published twice, or taken twice.
use Rattle.lock_free_queues.proofs.Queues.Positions.{published_once, taken_once}
use Rattle.lock_free_queues.proofs.laws.positions_are_once.Goals as goal

-- No position is published twice.
pub returns-clause-published : goal.returns-clause-published
returns-clause-published g c p q i x y events a b = published_once p q i x y events a b

-- No position is taken twice.
pub returns-clause-taken : goal.returns-clause-taken
returns-clause-taken g c p q i x y events a b = taken_once p q i x y events a b
