-- `push_within` (src/queues/pushes.rt): the invariant of its loop holds at the start and after each iteration, and its return meets the
-- clauses `sent`, `pushed`, `steps` and `full`.
use Rattle.std.proofs.Common.{[], ◌+◌, refl, arith}
use Rattle.lock_free_queues.specs.Queues.Rings.{producer_queue, producer_view}
use Rattle.lock_free_queues.proofs.Queues.Relays.{sending_none, sending_one, sending_still}
use Rattle.uses_streams.proofs.Tries.{refused_more, refused_all, pushed_within, steps_more, steps_within}
use Rattle.uses_streams.proofs.queues.pushes.push_within.Goals as goal

pub loop-refused-init : goal.loop-refused-init
loop-refused-init g c = record { sent = sending_none refl; full = refl; steps = omega arith }

-- each iteration keeps the invariant of the loop
pub loop-refused-preserved : goal.loop-refused-preserved
loop-refused-preserved g c =
    let l = c.loop-refused in
    record {
      sent = sending_still l.invariant.sent c.push.ensures.same c.if-push.false c.push.ensures.full;
      full = refused_more l.invariant.sent.queue
          (g.E.BoundedKind.named c.args.value.now) l._refused (producer_view c.args.producer.now) (producer_view l.producer)
          (producer_view c.push.new.producer) l.invariant.full (c.push.ensures.full c.if-push.false);
      steps = steps_more g.E.BoundedKind.most_steps l._refused (producer_view c.args.producer.now) (producer_view l.producer)
          (producer_view c.push.new.producer) l.invariant.steps c.push.ensures.steps;
    }

pub returns-then-push-clause-sent : goal.returns-then-push-clause-sent
returns-then-push-clause-sent g c is =
    sending_one [] c.args.value.now c.loop-refused.invariant.sent c.push.ensures.same c.if-push.true c.push.ensures.pushed

-- where `push` answers true, the tries before were refused, and this one pushed the value
pub returns-then-push-clause-pushed : goal.returns-then-push-clause-pushed
returns-then-push-clause-pushed g c is =
    let l = c.loop-refused in
    pushed_within l.invariant.sent.queue
    (g.E.BoundedKind.named c.args.value.now) l._refused (producer_view c.args.producer.now) (producer_view l.producer)
    (producer_view c.push.new.producer) l.invariant.full c.args.tries (omega arith) (c.push.ensures.pushed c.if-push.true)

-- where `push` answers true, the steps are those of the tries so far, and so of at most `tries`
pub returns-then-push-clause-steps : goal.returns-then-push-clause-steps
returns-then-push-clause-steps g c =
    let l = c.loop-refused in
    steps_within g.E.BoundedKind.most_steps (l._refused + 1) (producer_view c.args.producer.now) c.args.tries
    (producer_view c.push.new.producer) (omega arith)
    (steps_more g.E.BoundedKind.most_steps l._refused (producer_view c.args.producer.now) (producer_view l.producer)
    (producer_view c.push.new.producer) l.invariant.steps c.push.ensures.steps)

-- all tries were refused
pub returns-clause-full : goal.returns-clause-full
returns-clause-full g c is =
    let l = c.loop-refused in
    refused_all (producer_queue c.args.producer.now).capacity l._refused c.args.tries (g.E.BoundedKind.named c.args.value.now)
    (producer_view c.args.producer.now) (producer_view l.producer) (omega arith) l.invariant.full

-- all tries together have at most the steps of so many pushes
pub returns-clause-steps : goal.returns-clause-steps
returns-clause-steps g c =
    let l = c.loop-refused in
    steps_within g.E.BoundedKind.most_steps l._refused (producer_view c.args.producer.now) c.args.tries (producer_view l.producer)
    (omega arith) l.invariant.steps
