-- `empty_completion` (src/spsc/loan/calls.rt): the invariant of its loop holds at the start and after each iteration, and its return
-- meets the clauses `goes` and `emptied`.
use Rattle.lock_free_sets.proofs.Names.{rules, refl}
use Rattle.lock_free_queues.specs.Queues.Calls.{consumer_view}
use Rattle.model.specs.declared.event.Item.TheVariants.{Index}
use Rattle.lock_free_queues.proofs.Queues.Ends.{has_popped, was_empty}
use Rattle.lock_free_loans.proofs.Loan.Contracts.{pops_none, pops_on, still_goes, is_emptied, none_waited}
use Rattle.lock_free_loans.proofs.spsc.loan.calls.empty_completion.Goals as goal

-- the invariant of the loop holds before its first iteration
pub loop-init : goal.loop-init
loop-init g c = record { queue = refl; popping = pops_none (consumer_view c.args.consumer.now) }

-- a pop that found a number adds it to those that were taken out
pub loop-preserved : goal.loop-preserved
loop-preserved g c = record {
  queue = search rules;
  popping =
      pops_on c.loop.invariant.popping c.pop.ensures.same.goes c.pop.result c.is_none.ensures c.if-is_none.false
      (has_popped Index _ _ c.pop.result c.pop.ensures.popped c.pop.ensures.empty) c.pop.ensures.same.aside;
}

pub returns-then-is_none-clause-goes : goal.returns-then-is_none-clause-goes
returns-then-is_none-clause-goes g c = still_goes c.loop.invariant.popping c.pop.ensures.same.goes

-- the pop that found none ends the pops: the queue is emptied
pub returns-then-is_none-clause-emptied : goal.returns-then-is_none-clause-emptied
returns-then-is_none-clause-emptied g c =
    is_emptied c.loop.invariant.popping c.pop.result c.is_none.ensures c.if-is_none.true
    (has_popped Index _ _ c.pop.result c.pop.ensures.popped c.pop.ensures.empty)
    (none_waited c.pop.result _ _ (was_empty _ _ c.pop.result c.pop.ensures.empty)) c.pop.ensures.same.aside
