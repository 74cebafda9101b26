-- `empty` (src/outlet.rt): the invariant of its loop holds at the start and after each iteration, and its return meets the clauses
-- `empty` and `taken`.
use Rattle.std.proofs.Common.{◌<◌, ◌++◌, [], ◌∷◌, refl, ap, subst, sym, ◌∙◌}
use Rattle.history.proofs.Known.{begins_further, itself}
use Rattle.lock_free_queues.specs.Queues.Overflowing.{QueueId, consumer_queue, consumer_view}
use Rattle.zero_copy_bus.proofs.Drained.{takes_end, takes_more, takes_none_yet}
use Rattle.zero_copy_bus.proofs.ViewLemmas.{first_later, found_since}
use Rattle.zero_copy_bus.proofs.outlet.empty.Goals as goal

pub loop-init : goal.loop-init
loop-init g c =
    (refl, itself (consumer_view c.args.receives.now).seen, λ some. ([], takes_none_yet (consumer_view c.args.receives.now)))

-- one more word was popped
pub loop-preserved : goal.loop-preserved
loop-preserved g c = (
  c.pop.ensures.same.queue ∙ c.loop.invariant.0,
  begins_further _ _ _ c.loop.invariant.1 (first_later _ _ _ c.in-Some.ensures.popped.1),
  λ some.
      (let wide : 0 < (consumer_queue c.loop.receives).capacity =
      subst (λ (q : QueueId). 0 < q.capacity) (sym c.loop.invariant.0) some in
      let before = c.loop.invariant.2 some in
      (before.0 ++ c.in-Some.field-0 ∷ [], takes_more before.0 c.in-Some.field-0 _ _ _ before.1 (c.pop.ensures.same.goes wide) c.in-Some.ensures.popped.0)),
)

-- the last pop found the queue empty, after all that was seen at first
pub returns-in-None-clause-empty : goal.returns-in-None-clause-empty
returns-in-None-clause-empty g c some is =
    let same = ap (λ (q : QueueId). q.capacity) c.loop.invariant.0 in
    let wide : 0 < (consumer_queue c.loop.receives).capacity = subst (λ n. 0 < n) (sym same) some in
    found_since (consumer_view c.args.receives.now) (consumer_view c.loop.receives) (consumer_view c.pop.new.self)
    c.loop.invariant.1 (c.in-None.ensures.empty wide).1

-- the last pop took no word, so the words are those popped before
pub returns-in-None-clause-taken : goal.returns-in-None-clause-taken
returns-in-None-clause-taken g c some =
    let wide : 0 < (consumer_queue c.loop.receives).capacity =
    subst (λ (q : QueueId). 0 < q.capacity) (sym c.loop.invariant.0) some in
    let before = c.loop.invariant.2 some in
    (before.0, takes_end before.0 _ _ _ before.1 (c.pop.ensures.same.goes wide) (c.in-None.ensures.empty wide).0)
