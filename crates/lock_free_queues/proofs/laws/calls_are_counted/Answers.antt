-- The law `calls_are_counted` (src/laws.rt; clauses `pushed`, `refused`, `added`, `replaced`, `popped`, `none`, `peeked`, `seen`,
-- `acquired`, `released` and `measured`): the answer of a call says how much it adds to what its pass has published and taken out
-- itself.
use Rattle.lock_free_queues.proofs.Queues.Sums.{done_pushed, done_refused, done_added, done_replaced, done_popped}
use Rattle.lock_free_queues.proofs.Queues.Sums.{done_none, done_peeked, done_seen, done_acquired, done_released, done_measured}
use Rattle.lock_free_queues.proofs.laws.calls_are_counted.Goals as goal

-- A push that answers true has published one item and taken out none.
pub returns-clause-pushed : goal.returns-clause-pushed
returns-clause-pushed g c value old new h = done_pushed old new value h

-- A push that was refused publishes and takes out nothing.
pub returns-clause-refused : goal.returns-clause-refused
returns-clause-refused g c value capacity old new h = done_refused old new value capacity h

-- A push into an overflowing queue that handed nothing back has published one number and taken out none.
pub returns-clause-added : goal.returns-clause-added
returns-clause-added g c value old new h = done_added old new value h

-- A push that handed the oldest number back has published one number and taken out one.
pub returns-clause-replaced : goal.returns-clause-replaced
returns-clause-replaced g c value oldest old new h = done_replaced old new value oldest h

-- A pop that answers an item has taken out one.
pub returns-clause-popped : goal.returns-clause-popped
returns-clause-popped g c value old new h = done_popped old new value h

-- A pop that found the queue empty has taken out none.
pub returns-clause-none : goal.returns-clause-none
returns-clause-none g c old new h = done_none old new h

-- A peek publishes and takes out nothing.
pub returns-clause-peeked : goal.returns-clause-peeked
returns-clause-peeked g c answer old new h = done_peeked old new answer h

-- A look at a role publishes and takes out nothing.
pub returns-clause-seen : goal.returns-clause-seen
returns-clause-seen g c role taken old new h = done_seen old new role taken h

-- An acquire of a role publishes and takes out nothing.
pub returns-clause-acquired : goal.returns-clause-acquired
returns-clause-acquired g c role taken old new h = done_acquired old new role taken h

-- A release of a role publishes and takes out nothing.
pub returns-clause-released : goal.returns-clause-released
returns-clause-released g c role old new h = done_released old new role h

-- A call on the length publishes and takes out nothing.
pub returns-clause-measured : goal.returns-clause-measured
returns-clause-measured g c which capacity answer old new h = done_measured old new which capacity answer h
