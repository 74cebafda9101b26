-- The law `meets_changes` (src/lib.rt): an update of a state that answers true has met a change since the look began that last brought
-- that state up to date; where one answers false, there was none since that look ended.
use Rattle.laws_machine.proofs.UpdateAnswers as laws
use Rattle.laws_machine.proofs.meets_changes.Goals as goal

pub returns : goal.returns
returns g c t is r = laws.meets_changes t is r
