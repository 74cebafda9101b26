-- The law `counts_changes` (src/lib.rt): the number of changes of a container counts the adds, removes and replaces that succeeded, and
-- the recoveries, once each.
use Rattle.laws_machine.proofs.Counting as laws
use Rattle.laws_machine.proofs.counts_changes.Goals as goal

pub returns : goal.returns
returns g c t is r = laws.counts_changes t is r
