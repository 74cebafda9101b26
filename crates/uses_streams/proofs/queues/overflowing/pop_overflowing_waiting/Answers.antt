-- The pops before found none. The last one took the oldest number, so the queue has a capacity.
use Rattle.std.proofs.Common.{◌<◌, ◌+◌, refl, sym, ◌∙◌, subst, arith}
use Rattle.model.specs.declared.event.Item.TheVariants.{Index}
use Rattle.lock_free_queues.specs.Queues.Overflowing.{consumer_queue, consumer_view}
use Rattle.lock_free_queues.specs.Queues.Rings.{QueueId}
use Rattle.uses_streams.proofs.Tries.{has_capacity, keeps_share, none_more, taken_within}
use Rattle.uses_streams.proofs.queues.overflowing.pop_overflowing_waiting.Goals as goal

pub loop-init : goal.loop-init
loop-init g c = record { queue = refl; share = refl; none = λ some. (0, refl) }

-- each iteration keeps the invariant of the loop
pub loop-preserved : goal.loop-preserved
loop-preserved g c =
    let was = c.loop.invariant in
    record {
      queue = c.pop.ensures.same.queue ∙ was.queue;
      share = keeps_share c.loop.consumer c.pop.new.self c.pop.ensures.same ∙ was.share;
      none =
          λ some.
          let so_far = was.none some in
          let here = subst (λ (q : QueueId). 0 < q.capacity) (sym was.queue) some in (
            so_far.0 + 1,
            none_more so_far.0 (consumer_view c.args.consumer.now) (consumer_view c.loop.consumer) (consumer_view c.pop.new.self) so_far.1
                (c.in-None-pop.ensures.empty here),
          );
    }

pub returns-in-Some-pop-clause-queue : goal.returns-in-Some-pop-clause-queue
returns-in-Some-pop-clause-queue g c = c.pop.ensures.same.queue ∙ c.loop.invariant.queue

pub returns-in-Some-pop-clause-share : goal.returns-in-Some-pop-clause-share
returns-in-Some-pop-clause-share g c = keeps_share c.loop.consumer c.pop.new.self c.pop.ensures.same ∙ c.loop.invariant.share

-- where `pop` answers a number, the pops before found none, and this one took the oldest out
pub returns-in-Some-pop-clause-taken : goal.returns-in-Some-pop-clause-taken
returns-in-Some-pop-clause-taken g c =
    let was = c.loop.invariant in
    let here = has_capacity (consumer_queue c.loop.consumer).capacity c.pop.result c.in-Some-pop.number c.in-Some-pop.is c.pop.ensures.none in
    let so_far = was.none (subst (λ (q : QueueId). 0 < q.capacity) was.queue here) in (
      so_far.0 + 1,
      taken_within so_far.0 (consumer_view c.args.consumer.now) (consumer_view c.loop.consumer) (consumer_view c.pop.new.self) so_far.1
          (so_far.0 + 1) (Index c.in-Some-pop.number) (omega arith) c.in-Some-pop.ensures.popped,
    )
