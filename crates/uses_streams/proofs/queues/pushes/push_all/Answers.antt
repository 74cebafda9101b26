-- `push_all` (src/queues/pushes.rt): the invariant of its loop holds at the start and after each iteration, and its return meets the
-- clauses `sent`, `tried` and `steps`.
use Rattle.std.proofs.Common.{◌≡◌, ◌+◌, ◌<◌, length, take, refl, subst, arith}
use Rattle.lock_free_queues.specs.Queues.Contracts.{PushRefused}
use Rattle.lock_free_queues.specs.Queues.Relays.{Sending}
use Rattle.lock_free_queues.specs.Queues.Rings.{QueueId, producer_queue, producer_view}
use Rattle.lock_free_queues.proofs.Queues.Relays.{sending_none, sending_still}
use Rattle.uses_streams.proofs.Tries.{steps_more, steps_within}
use Rattle.uses_streams.proofs.QueueEnds.{pushed_next, pushed_so_many, pushed_them_all, sends_next}
use Rattle.uses_streams.proofs.queues.pushes.push_all.Goals as goal

pub loop-count-init : goal.loop-count-init
loop-count-init g c = record { sent = sending_none refl; pushed = refl; steps = omega arith }

-- each iteration keeps the invariant of the loop
pub loop-count-preserved : goal.loop-count-preserved
loop-count-preserved g c =
    let l = c.loop-count in
    let value = c.index-values-count.result in
    let below : l.count < length c.args.values.now = omega arith in
    record {
      sent = sends_next g.E.BoundedKind.named c.args.values.now l.count value below
          l.invariant.sent c.index-values-count.is c.push.ensures.same (c.push.ensures.pushed c.if-not-push.false);
      pushed = pushed_next g.E.BoundedKind.named c.args.values.now l.count value below c.index-values-count.is
          (producer_view c.args.producer.now) (producer_view l.producer) (producer_view c.push.new.producer) l.invariant.pushed
          (c.push.ensures.pushed c.if-not-push.false);
      steps = steps_more g.E.BoundedKind.most_steps l.count (producer_view c.args.producer.now) (producer_view l.producer)
          (producer_view c.push.new.producer) l.invariant.steps c.push.ensures.steps;
    }

pub returns-then-not-push-clause-sent : goal.returns-then-not-push-clause-sent
returns-then-not-push-clause-sent g c =
    sending_still c.loop-count.invariant.sent c.push.ensures.same c.if-not-push.true c.push.ensures.full

-- where `push` answers false, the values before this one were pushed, and this one was refused
pub returns-then-not-push-clause-tried : goal.returns-then-not-push-clause-tried
returns-then-not-push-clause-tried g c =
    let l = c.loop-count in
    pushed_so_many g.E.BoundedKind.named c.args.values.now l.count c.index-values-count.result (omega arith) c.index-values-count.is
    (producer_view c.args.producer.now) (producer_view l.producer) (producer_view c.push.new.producer) l.invariant.pushed
    (producer_queue c.args.producer.now).capacity
    (subst (λ (q : QueueId). PushRefused q.capacity (g.E.BoundedKind.named c.index-values-count.result) (producer_view l.producer)
    (producer_view c.push.new.producer)) l.invariant.sent.queue (c.push.ensures.full c.if-not-push.true))

-- where `push` answers false, its steps count too
pub returns-then-not-push-clause-steps : goal.returns-then-not-push-clause-steps
returns-then-not-push-clause-steps g c =
    let l = c.loop-count in
    steps_more g.E.BoundedKind.most_steps l.count (producer_view c.args.producer.now) (producer_view l.producer)
    (producer_view c.push.new.producer) l.invariant.steps c.push.ensures.steps

-- after the last value all values were sent
pub returns-clause-sent : goal.returns-clause-sent
returns-clause-sent g c =
    let l = c.loop-count in
    let all : l.count ≡ length c.args.values.now = omega arith in
    subst (λ n. Sending g.E.BoundedKind.named c.args.producer.now (take n c.args.values.now) l.producer) all l.invariant.sent

-- after the last value all values were pushed
pub returns-clause-tried : goal.returns-clause-tried
returns-clause-tried g c =
    let l = c.loop-count in
    let all : l.count ≡ length c.args.values.now = omega arith in
    pushed_them_all g.E.BoundedKind.named c.args.values.now l.count (length c.args.values.now) (producer_view c.args.producer.now)
    (producer_view l.producer) l.invariant.pushed all (omega arith) (producer_queue c.args.producer.now).capacity

-- after the last value the steps are those of one push for each
pub returns-clause-steps : goal.returns-clause-steps
returns-clause-steps g c =
    let l = c.loop-count in
    steps_within g.E.BoundedKind.most_steps l.count (producer_view c.args.producer.now) (length c.args.values.now + 1)
    (producer_view l.producer) (omega arith) l.invariant.steps
