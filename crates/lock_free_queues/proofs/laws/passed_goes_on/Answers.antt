-- The law `passed_goes_on` (src/laws.rt; clauses `acquired`, `popped` and `none`): who knows what was sent and received goes on knowing
-- it; with the whole share nothing changes as a role is taken, each pop receives one value more, and where a pop finds none all that was
-- sent was received.
use Rattle.lock_free_queues.proofs.Queues.Passed.{still_passed, one_passed, all_passed}
use Rattle.lock_free_queues.proofs.laws.passed_goes_on.Goals as goal

-- An acquire of a role changes nothing of what was sent and received.
pub returns-clause-acquired : goal.returns-clause-acquired
returns-clause-acquired g c named role sent received old new k goes h =
    still_passed {role = role} k goes h

-- A pop that finds a value receives one value more.
pub returns-clause-popped : goal.returns-clause-popped
returns-clause-popped g c named value sent received old new k goes h =
    one_passed value k goes h

-- Where a pop finds none, all that was sent was received.
pub returns-clause-none : goal.returns-clause-none
returns-clause-none g c named code kind capacity sent received old new tells k goes history h =
    all_passed code kind capacity tells k goes history h
