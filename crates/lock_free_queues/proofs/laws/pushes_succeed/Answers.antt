-- The law `pushes_succeed` (src/laws.rt; clauses `seen` and `counted`): a push succeeds where its pass had seen fewer values wait than
-- the capacity; with the whole share it succeeds where its pass has pushed less than it has popped and the capacity together.
use Rattle.lock_free_queues.proofs.Queues.Passed.{push_succeeds, counted_push_succeeds}
use Rattle.lock_free_queues.proofs.laws.pushes_succeed.Goals as goal

-- A push succeeds where its pass had seen fewer values wait than the capacity.
pub returns-clause-seen : goal.returns-clause-seen
returns-clause-seen g c capacity item taken old new room early full =
    push_succeeds {capacity = capacity} {item = item} {old = old} {new = new} taken room early full

-- With the whole share, a push succeeds where its pass has pushed less than it has popped and the
-- capacity together.
pub returns-clause-counted : goal.returns-clause-counted
returns-clause-counted g c code kind capacity item taken old new history whole all room early full =
    counted_push_succeeds {item = item} {old = old} {new = new} code kind capacity taken history whole all room early full
