-- `pop_within` (src/queues/pops.rt): the invariant of its loop holds at the start and after each iteration, and its return meets the
-- clauses `received`, `popped`, `steps` and `empty`.
use Rattle.std.proofs.Common.{[], ◌∷◌, Some, None, ◌+◌, refl, arith}
use Rattle.lock_free_queues.specs.Queues.Rings.{consumer_view}
use Rattle.lock_free_queues.proofs.Queues.Relays.{receiving_none, receiving_one, receiving_still}
use Rattle.uses_streams.proofs.Tries.{empty_more, empty_all, popped_within, steps_more, steps_within}
use Rattle.uses_streams.proofs.queues.pops.pop_within.Goals as goal

pub loop-empty-init : goal.loop-empty-init
loop-empty-init g c = record { received = receiving_none refl; empty = refl; steps = omega arith }

-- each iteration keeps the invariant of the loop
pub loop-empty-preserved : goal.loop-empty-preserved
loop-empty-preserved g c =
    let l = c.loop-empty in
    record {
      received = receiving_still {answer = None} l.invariant.received c.pop.ensures.same c.in-None.ensures.empty refl;
      empty = empty_more l._empty (consumer_view c.args.consumer.now) (consumer_view l.consumer) (consumer_view c.pop.new.consumer)
          l.invariant.empty c.in-None.ensures.empty;
      steps = steps_more g.E.BoundedKind.most_steps l._empty (consumer_view c.args.consumer.now) (consumer_view l.consumer)
          (consumer_view c.pop.new.consumer) l.invariant.steps c.pop.ensures.steps;
    }

-- the value was received, after tries that received none
pub returns-in-Some-clause-received : goal.returns-in-Some-clause-received
returns-in-Some-clause-received g c =
    receiving_one {answer = Some c.in-Some.value} [] (c.in-Some.value ∷ []) c.in-Some.value c.loop-empty.invariant.received
    c.pop.ensures.same c.in-Some.ensures.popped refl refl

-- the tries before found the queue empty, and this one popped the value
pub returns-in-Some-clause-popped : goal.returns-in-Some-clause-popped
returns-in-Some-clause-popped g c =
    let l = c.loop-empty in
    popped_within l._empty (consumer_view c.args.consumer.now) (consumer_view l.consumer) (consumer_view c.pop.new.consumer)
    l.invariant.empty c.args.tries (g.E.BoundedKind.named c.in-Some.value) (omega arith) c.in-Some.ensures.popped

-- where a pop answers a value, the steps are those of the tries so far, and so of at most `tries`
pub returns-in-Some-clause-steps : goal.returns-in-Some-clause-steps
returns-in-Some-clause-steps g c =
    let l = c.loop-empty in
    steps_within g.E.BoundedKind.most_steps (l._empty + 1) (consumer_view c.args.consumer.now) c.args.tries
    (consumer_view c.pop.new.consumer) (omega arith)
    (steps_more g.E.BoundedKind.most_steps l._empty (consumer_view c.args.consumer.now) (consumer_view l.consumer)
    (consumer_view c.pop.new.consumer) l.invariant.steps c.pop.ensures.steps)

-- all tries found the queue empty
pub returns-clause-empty : goal.returns-clause-empty
returns-clause-empty g c =
    let l = c.loop-empty in
    empty_all l._empty c.args.tries (consumer_view c.args.consumer.now) (consumer_view l.consumer) (omega arith) l.invariant.empty

-- all tries together have at most the steps of so many pops
pub returns-clause-steps : goal.returns-clause-steps
returns-clause-steps g c =
    let l = c.loop-empty in
    steps_within g.E.BoundedKind.most_steps l._empty (consumer_view c.args.consumer.now) c.args.tries (consumer_view l.consumer)
    (omega arith) l.invariant.steps
