-- `empty_submission` (src/spsc/loan/calls.rt): the invariant of its loop holds at the start and after each iteration, and its return
-- meets the clauses `same` and `emptied`.
use Rattle.lock_free_sets.proofs.Names.{ap, refl, subst, sym, ◌∙◌, ◌<◌}
use Rattle.lock_free_queues.specs.Queues.Overflowing.{QueueId, consumer_queue, consumer_view}
use Rattle.model.specs.declared.event.Item.TheVariants.{Index}
use Rattle.lock_free_queues.proofs.Queues.Ends.{oldest_popped, has_found_none}
use Rattle.lock_free_loans.proofs.Loan.Contracts.{pops_none, pops_on, still_goes, is_emptied}
use Rattle.lock_free_loans.proofs.spsc.loan.calls.empty_submission.Goals as goal

-- as the loop begins nothing was popped
pub loop-init : goal.loop-init
loop-init g c = record {
  queue = refl;
  popping = λ wide. pops_none (consumer_view c.args.receiver.now);
  none = λ none. refl;
}

-- a pop that found a number adds it to those that were taken out; without capacity nothing changes
pub loop-preserved : goal.loop-preserved
loop-preserved g c =
    let room = ap (λ (q : QueueId). q.capacity) c.loop.invariant.queue in
    record {
      queue = c.pop.ensures.same.queue ∙ c.loop.invariant.queue;
      popping = λ wide. (let some : 0 < (consumer_queue c.loop.receiver).capacity = subst (λ n. 0 < n) (sym room) wide in
          pops_on (c.loop.invariant.popping wide) (c.pop.ensures.same.goes some) c.pop.result c.is_none.ensures c.if-is_none.false
          (oldest_popped Index _ _ c.pop.result c.pop.ensures.popped (c.pop.ensures.empty some)) c.pop.ensures.aside);
      none = λ none. c.pop.ensures.same.none (room ∙ none) ∙ c.loop.invariant.none none;
    }

-- the guard is of the same queue, and where this has a capacity its view goes on
pub returns-then-is_none-clause-same : goal.returns-then-is_none-clause-same
returns-then-is_none-clause-same g c =
    let room = ap (λ (q : QueueId). q.capacity) c.loop.invariant.queue in
    record {
      queue = c.pop.ensures.same.queue ∙ c.loop.invariant.queue;
      goes = λ wide. (let some : 0 < (consumer_queue c.loop.receiver).capacity = subst (λ n. 0 < n) (sym room) wide in
          still_goes (c.loop.invariant.popping wide) (c.pop.ensures.same.goes some));
      none = λ none. c.pop.ensures.same.none (room ∙ none) ∙ c.loop.invariant.none none;
    }

-- where the queue has a capacity, the pop that found none ends the pops: the queue is emptied
pub returns-then-is_none-clause-emptied : goal.returns-then-is_none-clause-emptied
returns-then-is_none-clause-emptied g c wide =
    let room = ap (λ (q : QueueId). q.capacity) c.loop.invariant.queue in
    let some : 0 < (consumer_queue c.loop.receiver).capacity = subst (λ n. 0 < n) (sym room) wide in
    let empty = c.pop.ensures.empty some in
    is_emptied (c.loop.invariant.popping wide) c.pop.result c.is_none.ensures c.if-is_none.true
    (oldest_popped Index _ _ c.pop.result c.pop.ensures.popped empty) (has_found_none _ _ c.pop.result empty) c.pop.ensures.aside
