-- The law `a_machine_runs_the_page` (src/lib.rt): what a `Machine` of an index queue has taken is a run of that page: if its parties 0
-- and 1 acquired the roles first, and then took these turns, its words, the invocations and the responses are those of the page's
-- machine over the same turns.
use Rattle.pages.proofs.Queue.{runs_of}
use Rattle.pages.proofs.a_machine_runs_the_page.Goals as goal

pub returns : goal.returns
returns c capacity turns few small is = runs_of _ capacity turns few small is
