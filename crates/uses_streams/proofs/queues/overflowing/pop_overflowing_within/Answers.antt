-- The pops before found none. The last one took the oldest number, so the queue has a capacity.
use Rattle.std.proofs.Common.{◌<◌, refl, sym, ap, ◌∙◌, subst, arith}
use Rattle.model.specs.declared.event.Item.TheVariants.{Index}
use Rattle.lock_free_queues.specs.Queues.Overflowing.{consumer_queue, consumer_view}
use Rattle.lock_free_queues.specs.Queues.Rings.{QueueId}
use Rattle.uses_streams.proofs.Tries.{has_capacity, keeps_share, none_all, none_more, taken_within}
use Rattle.uses_streams.proofs.queues.overflowing.pop_overflowing_within.Goals as goal

pub loop-empty-init : goal.loop-empty-init
loop-empty-init g c = record { queue = refl; share = refl; none = λ some. refl; still = λ none. refl }

-- each iteration keeps the invariant of the loop
pub loop-empty-preserved : goal.loop-empty-preserved
loop-empty-preserved g c =
    let l = c.loop-empty in
    let was = l.invariant in
    record {
      queue = c.pop.ensures.same.queue ∙ was.queue;
      share = keeps_share c.loop-empty.consumer c.pop.new.self c.pop.ensures.same ∙ was.share;
      none =
          λ some.
          none_more l._empty (consumer_view c.args.consumer.now) (consumer_view l.consumer) (consumer_view c.pop.new.self) (was.none some)
          (c.in-None.ensures.empty (subst (λ (q : QueueId). 0 < q.capacity) (sym was.queue) some));
      still = λ none. c.pop.ensures.same.none (ap (λ (q : QueueId). q.capacity) was.queue ∙ none) ∙ was.still none;
    }

pub returns-in-Some-clause-queue : goal.returns-in-Some-clause-queue
returns-in-Some-clause-queue g c = c.pop.ensures.same.queue ∙ c.loop-empty.invariant.queue

pub returns-in-Some-clause-share : goal.returns-in-Some-clause-share
returns-in-Some-clause-share g c = keeps_share c.loop-empty.consumer c.pop.new.self c.pop.ensures.same ∙ c.loop-empty.invariant.share

-- where a pop answers a number, the tries before found none, and this one took the oldest out
pub returns-in-Some-clause-taken : goal.returns-in-Some-clause-taken
returns-in-Some-clause-taken g c =
    let l = c.loop-empty in
    let was = l.invariant in
    let here = has_capacity (consumer_queue l.consumer).capacity c.pop.result c.in-Some.number c.in-Some.is c.pop.ensures.none in
    taken_within l._empty (consumer_view c.args.consumer.now) (consumer_view l.consumer) (consumer_view c.pop.new.self)
    (was.none (subst (λ (q : QueueId). 0 < q.capacity) was.queue here)) c.args.tries (Index c.in-Some.number) (omega arith)
    c.in-Some.ensures.popped

-- where a pop gave a number, the queue has a capacity
pub returns-in-Some-clause-none : goal.returns-in-Some-clause-none
returns-in-Some-clause-none g c none =
    let l = c.loop-empty in
    let here = has_capacity (consumer_queue l.consumer).capacity c.pop.result c.in-Some.number c.in-Some.is c.pop.ensures.none in
    let same = ap (λ (q : QueueId). q.capacity) l.invariant.queue in
    absurd (omega arith)

-- a queue without a capacity gives no number, so that case does not occur
pub returns-in-Some-clause-still : goal.returns-in-Some-clause-still
returns-in-Some-clause-still g c none =
    let l = c.loop-empty in
    let here = has_capacity (consumer_queue l.consumer).capacity c.pop.result c.in-Some.number c.in-Some.is c.pop.ensures.none in
    let same = ap (λ (q : QueueId). q.capacity) l.invariant.queue in
    absurd (omega arith)

-- all tries found none
pub returns-clause-empty : goal.returns-clause-empty
returns-clause-empty g c some =
    let l = c.loop-empty in
    none_all l._empty c.args.tries (consumer_view c.args.consumer.now) (consumer_view l.consumer) (omega arith) (l.invariant.none some)
