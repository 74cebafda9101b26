-- `passes_are_strongly_linearizable` (src/lib.rt): its return meets the clauses `index`, `overflowing`, `value` and `values`.
use Rattle.pages_threads.proofs.Linear.{of_index, of_overflowing, of_value, of_values}
use Rattle.pages_threads.proofs.passes_are_strongly_linearizable.Goals as goal

-- what a pass of an index queue has seen is linearizable as the bounded list, in the order in which calls act
pub returns-clause-index : goal.returns-clause-index
returns-clause-index g c capacity = of_index capacity (c.passes_run_the_pages.ensures.index capacity)

pub returns-clause-overflowing : goal.returns-clause-overflowing
returns-clause-overflowing g c capacity more = of_overflowing capacity (c.passes_run_the_pages.ensures.overflowing capacity more)

pub returns-clause-value : goal.returns-clause-value
returns-clause-value g c = of_value c.passes_run_the_pages.ensures.value

-- what a pass of a queue of values has seen is linearizable as the bounded list, in the order in which calls act
pub returns-clause-values : goal.returns-clause-values
returns-clause-values g c how capacity = of_values how capacity (c.passes_run_the_pages.ensures.values how capacity)
