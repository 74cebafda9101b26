-- `Sender::finish` (src/ends/calls.rt): its return meets the clauses `sent`, `finished` and `end`.
use Rattle.uses_streams.proofs.Streams.{finishes}
use Rattle.uses_streams.proofs.ends.Sender.finish.Goals as goal

-- the end and the role's return leave the values that were sent
pub returns-then-push-clause-sent : goal.returns-then-push-clause-sent
returns-then-push-clause-sent g c =
    (finishes c.push.ensures.same.goes c.release-pass.ensures.same.goes c.args.self.alone c.args.self.unended
    (c.push.ensures.pushed c.if-push.true) c.release-pass.ensures.released c.release-pass.ensures.list).same

-- where `push` answers true, the end was pushed
pub returns-then-push-clause-finished : goal.returns-then-push-clause-finished
returns-then-push-clause-finished g c =
    (finishes c.push.ensures.same.goes c.release-pass.ensures.same.goes c.args.self.alone c.args.self.unended
    (c.push.ensures.pushed c.if-push.true) c.release-pass.ensures.released c.release-pass.ensures.list).ended

-- where `push` answers true, the end was pushed once, after all values
pub returns-then-push-clause-end : goal.returns-then-push-clause-end
returns-then-push-clause-end g c =
    (finishes c.push.ensures.same.goes c.release-pass.ensures.same.goes c.args.self.alone c.args.self.unended
    (c.push.ensures.pushed c.if-push.true) c.release-pass.ensures.released c.release-pass.ensures.list).once
