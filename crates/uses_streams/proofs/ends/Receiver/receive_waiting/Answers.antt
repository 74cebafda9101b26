-- `Receiver::receive_waiting` (src/ends/waits.rt): each iteration keeps the invariant of its loop, and its return meets the clauses
-- `queue`, `value` and `none`.
use Rattle.std.proofs.Common.{ap, ◌∙◌, ◌++◌, ◌∷◌, [], append-nil}
use Rattle.uses_streams.proofs.ends.Receiver.receive_waiting.Goals as goal

pub loop-preserved : goal.loop-preserved
loop-preserved g c =
    (c.receive.ensures.queue ∙ c.loop.invariant.0, c.in-Nothing.ensures.received ∙ (append-nil _ ∙ c.loop.invariant.1))

pub returns-in-Value-clause-queue : goal.returns-in-Value-clause-queue
returns-in-Value-clause-queue g c = c.receive.ensures.queue ∙ c.loop.invariant.0

pub returns-in-Value-clause-value : goal.returns-in-Value-clause-value
returns-in-Value-clause-value g c = c.in-Value.ensures.received ∙ ap (λ xs. xs ++ c.in-Value.value ∷ []) c.loop.invariant.1

pub returns-in-End-clause-queue : goal.returns-in-End-clause-queue
returns-in-End-clause-queue g c = c.receive.ensures.queue ∙ c.loop.invariant.0

pub returns-in-End-clause-none : goal.returns-in-End-clause-none
returns-in-End-clause-none g c = c.in-End.ensures.received ∙ (append-nil _ ∙ c.loop.invariant.1)
