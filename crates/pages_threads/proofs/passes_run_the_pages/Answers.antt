-- `passes_run_the_pages` (src/lib.rt): its return meets the clauses `index`, `overflowing`, `value` and `values`.
use Rattle.model.specs.declared.families.queues.QueueKind.TheVariants.{IndexQueue, Queue}
use Rattle.laws_queues.proofs.Queues.Sound.{admitted_fits}
use Rattle.pages_threads.specs.Known.{index_page, overflowing_page, queue_page, value_page}
use Rattle.pages_threads.proofs.Passing.{passing}
use Rattle.pages_threads.proofs.passes_run_the_pages.Goals as goal

-- what a pass of an index queue has seen is the history of a run of that page
pub returns-clause-index : goal.returns-clause-index
returns-clause-index g c capacity =
    passing (index_page capacity) (λ t turns h. h)
    (λ admitted. c.roles_change_hands.ensures.index capacity (admitted_fits IndexQueue capacity admitted))

pub returns-clause-overflowing : goal.returns-clause-overflowing
returns-clause-overflowing g c capacity more =
    passing (overflowing_page capacity) (λ t turns h. h) (λ admitted. c.roles_change_hands.ensures.overflowing capacity more)

pub returns-clause-value : goal.returns-clause-value
returns-clause-value g c = passing value_page (λ t turns h. h) (λ admitted. c.roles_change_hands.ensures.value)

-- what a pass of a queue of values has seen is the history of a run of that page
pub returns-clause-values : goal.returns-clause-values
returns-clause-values g c how capacity =
    passing (queue_page how capacity) (λ t turns h. h)
    (λ admitted. c.roles_change_hands.ensures.values how capacity (admitted_fits Queue capacity admitted))
