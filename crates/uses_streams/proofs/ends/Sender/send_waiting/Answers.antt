-- `Sender::send_waiting` (src/ends/waits.rt): each iteration keeps the invariant of its loop, and its return meets the clauses `queue`
-- and `sent`.
use Rattle.std.proofs.Common.{ap, ◌∙◌, ◌++◌, ◌∷◌, []}
use Rattle.uses_streams.proofs.ends.Sender.send_waiting.Goals as goal

pub loop-preserved : goal.loop-preserved
loop-preserved g c = (c.send.ensures.queue ∙ c.loop.invariant.0, c.send.ensures.same c.if-send.false ∙ c.loop.invariant.1)

pub returns-then-send-clause-queue : goal.returns-then-send-clause-queue
returns-then-send-clause-queue g c = c.send.ensures.queue ∙ c.loop.invariant.0

pub returns-then-send-clause-sent : goal.returns-then-send-clause-sent
returns-then-send-clause-sent g c =
    c.send.ensures.sent c.if-send.true ∙ ap (λ xs. xs ++ c.args.value ∷ []) c.loop.invariant.1
