-- `Sender::send` (src/ends/calls.rt): `self` meets the invariant of its type, and its return meets the clauses `sent` and `same`.
use Rattle.std.proofs.Common.{ap}
use Rattle.lock_free_queues.specs.Queues.Rings.{producer_queue}
use Rattle.uses_streams.specs.Streams.{values_in}
use Rattle.uses_streams.proofs.Streams.{pushes_value, pushes_none, pushes_either}
use Rattle.uses_streams.proofs.ends.Sender.send.Goals as goal

-- `self` still meets the invariant of its type
pub invariant_of-self : goal.invariant_of-self
invariant_of-self g c =
    let either = pushes_either c.push.ensures.same.goes c.args.value
    (producer_queue c.args.self.now.producer).capacity c.push.result c.args.self.now.alone c.args.self.now.unended c.push.ensures.pushed
    c.push.ensures.full in
    record { alone = either.0; unended = either.1 }

-- where `push` answers true, one value more was sent
pub returns-clause-sent : goal.returns-clause-sent
returns-clause-sent g c is =
    (pushes_value c.push.ensures.same.goes c.args.value
    c.args.self.now.alone c.args.self.now.unended (c.push.ensures.pushed is)).2

-- where `push` answers false, nothing was sent
pub returns-clause-same : goal.returns-clause-same
returns-clause-same g c is =
    ap values_in (pushes_none c.push.ensures.same.goes
    (producer_queue c.args.self.now.producer).capacity _ c.args.self.now.alone (c.push.ensures.full is)).1
