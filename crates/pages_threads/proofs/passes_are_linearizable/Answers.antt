-- `passes_are_linearizable` (src/lib.rt): its return meets the clauses `index`, `overflowing`, `value` and `values`.
use Rattle.pages.specs.IndexQueue.{bounded_list}
use Rattle.pages.specs.OverflowingQueue.{overflowing_list}
use Rattle.pages.specs.Queue as values
use Rattle.pages.specs.Value.{register}
use Rattle.pages_threads.specs.Known.{index_page, overflowing_page, queue_page, value_page}
use Rattle.pages_threads.proofs.Passing.{linear}
use Rattle.pages_threads.proofs.passes_are_linearizable.Goals as goal

-- what a pass of an index queue has seen is linearizable as the bounded list
pub returns-clause-index : goal.returns-clause-index
returns-clause-index g c capacity = linear (index_page capacity) (bounded_list capacity) (c.passes_are_strongly_linearizable.ensures.index capacity)

-- what a pass of an overflowing queue has seen is linearizable as its list
pub returns-clause-overflowing : goal.returns-clause-overflowing
returns-clause-overflowing g c capacity more =
    linear (overflowing_page capacity) (overflowing_list capacity) (c.passes_are_strongly_linearizable.ensures.overflowing capacity more)

pub returns-clause-value : goal.returns-clause-value
returns-clause-value g c = linear value_page register c.passes_are_strongly_linearizable.ensures.value

-- what a pass of a queue of values has seen is linearizable as the bounded list
pub returns-clause-values : goal.returns-clause-values
returns-clause-values g c how capacity =
    linear (queue_page how capacity) (values.bounded_list capacity) (c.passes_are_strongly_linearizable.ensures.values how capacity)
