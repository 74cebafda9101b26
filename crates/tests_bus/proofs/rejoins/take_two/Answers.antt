-- `take_two` (src/rejoins.rt): its returns meet the clauses `place` and `queue`.
use Rattle.std.proofs.Common.{◌∙◌}
use Rattle.tests_bus.proofs.rejoins.take_two.Goals as goal

-- Both receives and the return of a record leave the subscriber at its place, whether a second record came or not.
pub returns-in-Some-receive-clause-place : goal.returns-in-Some-receive-clause-place
returns-in-Some-receive-clause-place g c = c.receive-2.ensures.same.2 ∙ (c.give_back-is_back.ensures.same.2 ∙ c.receive.ensures.same.2)

pub returns-in_default-receive-clause-place : goal.returns-in_default-receive-clause-place
returns-in_default-receive-clause-place g c = c.receive-2.ensures.same.2 ∙ (c.give_back-is_back.ensures.same.2 ∙ c.receive.ensures.same.2)

-- They leave it the queue that it receives from, too.
pub returns-in-Some-receive-clause-queue : goal.returns-in-Some-receive-clause-queue
returns-in-Some-receive-clause-queue g c = c.receive-2.ensures.had.1.queue ∙ (c.give_back-is_back.ensures.receives.0 ∙ c.receive.ensures.had.1.queue)

pub returns-in_default-receive-clause-queue : goal.returns-in_default-receive-clause-queue
returns-in_default-receive-clause-queue g c = c.receive-2.ensures.had.1.queue ∙ (c.give_back-is_back.ensures.receives.0 ∙ c.receive.ensures.had.1.queue)

-- Where nothing waits, the one receive that was made leaves it that queue.
pub returns-in_default-clause-queue : goal.returns-in_default-clause-queue
returns-in_default-clause-queue g c = c.receive.ensures.had.1.queue
