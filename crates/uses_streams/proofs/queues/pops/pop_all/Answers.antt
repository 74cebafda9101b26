-- `pop_all` (src/queues/pops.rt): the invariant of its loop holds at the start and after each iteration, and its return meets the
-- clauses `received`, `tried`, `steps` and `rest`.
use Rattle.std.proofs.Common.{◌≡◌, ◌+◌, ◌<◌, None, length, take, drop, refl, subst, arith}
use Rattle.lock_free_queues.specs.Queues.Relays.{Receiving}
use Rattle.lock_free_queues.specs.Queues.Rings.{consumer_view}
use Rattle.lock_free_queues.proofs.Queues.Relays.{receiving_none, receiving_still}
use Rattle.uses_streams.proofs.Tries.{steps_more, steps_within}
use Rattle.uses_streams.proofs.QueueEnds.{popped_next, popped_so_many, popped_them_all, receives_next, rest_stays}
use Rattle.uses_streams.proofs.queues.pops.pop_all.Goals as goal

pub loop-count-init : goal.loop-count-init
loop-count-init g c = record { received = receiving_none refl; rest = refl; popped = refl; steps = omega arith }

-- each iteration keeps the invariant of the loop
pub loop-count-preserved : goal.loop-count-preserved
loop-count-preserved g c =
    let l = c.loop-count in
    let value = c.in-Some.value in
    let below : l.count < length l.values = omega arith in
    record {
      received = receives_next g.E.BoundedKind.named l.values l.count value below
          l.invariant.received c.pop.ensures.same c.in-Some.ensures.popped;
      rest = rest_stays c.args.values.now l.values l.count value l.invariant.rest;
      popped = popped_next g.E.BoundedKind.named l.values l.count value (consumer_view c.args.consumer.now) (consumer_view l.consumer)
          (consumer_view c.pop.new.consumer) below l.invariant.popped c.in-Some.ensures.popped;
      steps = steps_more g.E.BoundedKind.most_steps l.count (consumer_view c.args.consumer.now) (consumer_view l.consumer)
          (consumer_view c.pop.new.consumer) l.invariant.steps c.pop.ensures.steps;
    }

pub returns-in-None-clause-received : goal.returns-in-None-clause-received
returns-in-None-clause-received g c =
    receiving_still {answer = None} c.loop-count.invariant.received c.pop.ensures.same c.in-None.ensures.empty refl

-- where the queue is found empty, the values before were popped
pub returns-in-None-clause-tried : goal.returns-in-None-clause-tried
returns-in-None-clause-tried g c =
    let l = c.loop-count in
    popped_so_many g.E.BoundedKind.named l.values l.count (consumer_view c.args.consumer.now) (consumer_view l.consumer)
    (consumer_view c.pop.new.consumer) (omega arith) l.invariant.popped c.in-None.ensures.empty

-- where the queue is found empty, the steps of that pop count too
pub returns-in-None-clause-steps : goal.returns-in-None-clause-steps
returns-in-None-clause-steps g c =
    let l = c.loop-count in
    steps_more g.E.BoundedKind.most_steps l.count (consumer_view c.args.consumer.now) (consumer_view l.consumer)
    (consumer_view c.pop.new.consumer) l.invariant.steps c.pop.ensures.steps

-- once the slice is full, its values are those that were received
pub returns-clause-received : goal.returns-clause-received
returns-clause-received g c =
    let l = c.loop-count in
    let all : l.count ≡ length l.values = omega arith in
    subst (λ n. Receiving g.E.BoundedKind.named c.args.consumer.now (take n l.values) l.consumer) all l.invariant.received

-- once the slice is full, nothing is left of it to stay as it was
pub returns-clause-rest : goal.returns-clause-rest
returns-clause-rest g c =
    let l = c.loop-count in
    let all : l.count ≡ length l.values = omega arith in
    subst (λ n. drop n l.values ≡ drop n c.args.values.now) all l.invariant.rest

-- once the slice is full, each of its values was popped
pub returns-clause-tried : goal.returns-clause-tried
returns-clause-tried g c =
    let l = c.loop-count in
    let all : l.count ≡ length l.values = omega arith in
    popped_them_all g.E.BoundedKind.named l.values l.count (length l.values) (consumer_view c.args.consumer.now) (consumer_view l.consumer)
    l.invariant.popped all (omega arith)

-- once the slice is full, the steps are those of one pop for each value
pub returns-clause-steps : goal.returns-clause-steps
returns-clause-steps g c =
    let l = c.loop-count in
    steps_within g.E.BoundedKind.most_steps l.count (consumer_view c.args.consumer.now) (length l.values + 1)
    (consumer_view l.consumer) (omega arith) l.invariant.steps
