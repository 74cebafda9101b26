-- `Sender::finish_waiting` (src/ends/waits.rt): each iteration keeps the invariant of its loop, its result meets the invariant of its
-- type, and its return meets the clauses `sent`, `finished` and `end`.
use Rattle.std.proofs.Common.{ap, ◌∙◌}
use Rattle.lock_free_queues.specs.Queues.Rings.{producer_queue}
use Rattle.uses_streams.specs.Streams.{has_values, values_in}
use Rattle.uses_streams.proofs.Streams.{finishes, pushes_none}
use Rattle.uses_streams.proofs.ends.Sender.finish_waiting.Goals as goal

-- each iteration keeps the invariant of the loop
pub loop-preserved : goal.loop-preserved
loop-preserved g c =
    let l = c.loop in
    let none = pushes_none c.push.ensures.same.goes (producer_queue l.producer).capacity _ l.invariant.1 (c.push.ensures.full c.if-push.false) in
    (c.push.ensures.same.queue ∙ l.invariant.0, none.0, none.1 ∙ l.invariant.2)

-- the result meets the invariant of its type
pub invariant_of-result : goal.invariant_of-result
invariant_of-result g c =
    let l = c.loop in
    let done = finishes c.push.ensures.same.goes c.release-pass.ensures.same.goes l.invariant.1 (ap has_values l.invariant.2 ∙ c.args.self.unended)
    (c.push.ensures.pushed c.if-push.true) c.release-pass.ensures.released c.release-pass.ensures.list in
    record { alone = done.alone }

-- the end and the role's return leave the values that were sent
pub returns-then-push-clause-sent : goal.returns-then-push-clause-sent
returns-then-push-clause-sent g c =
    let l = c.loop in
    (finishes c.push.ensures.same.goes c.release-pass.ensures.same.goes l.invariant.1 (ap has_values l.invariant.2 ∙ c.args.self.unended)
    (c.push.ensures.pushed c.if-push.true) c.release-pass.ensures.released c.release-pass.ensures.list).same
    ∙ ap values_in l.invariant.2

-- where `push` answers true, the end was pushed
pub returns-then-push-clause-finished : goal.returns-then-push-clause-finished
returns-then-push-clause-finished g c =
    let l = c.loop in
    (finishes c.push.ensures.same.goes c.release-pass.ensures.same.goes l.invariant.1 (ap has_values l.invariant.2 ∙ c.args.self.unended)
    (c.push.ensures.pushed c.if-push.true) c.release-pass.ensures.released c.release-pass.ensures.list).ended

-- where `push` answers true, the end was pushed once, after all values
pub returns-then-push-clause-end : goal.returns-then-push-clause-end
returns-then-push-clause-end g c =
    let l = c.loop in
    (finishes c.push.ensures.same.goes c.release-pass.ensures.same.goes l.invariant.1 (ap has_values l.invariant.2 ∙ c.args.self.unended)
    (c.push.ensures.pushed c.if-push.true) c.release-pass.ensures.released c.release-pass.ensures.list).once
