-- The law `counting_bit_set_is_the_code` (src/lib.rt; clauses `code`, `hands_out`, `sets`, `takes` and `machine`): the page of the
-- counting bit set is about the code.
use Rattle.pages.proofs.SetsAreTheCode as sets
use Rattle.pages.proofs.CountingBitSetRuns.{counts_runs}
use Rattle.pages.proofs.counting_bit_set_is_the_code.Goals as goal

pub returns-clause-code : goal.returns-clause-code
returns-clause-code c = sets.counts_code

pub returns-clause-hands_out : goal.returns-clause-hands_out
returns-clause-hands_out c = sets.counts_hands_out

pub returns-clause-sets : goal.returns-clause-sets
returns-clause-sets c = sets.counts_sets

pub returns-clause-takes : goal.returns-clause-takes
returns-clause-takes c = sets.counts_takes

pub returns-clause-machine : goal.returns-clause-machine
returns-clause-machine c = counts_runs
