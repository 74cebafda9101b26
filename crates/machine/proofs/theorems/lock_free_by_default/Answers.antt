-- The law `lock_free_by_default` (src/theorems.rt; clauses `one_ends`, `keep_ending`, `container_ends` and
-- `container_keeps_ending`): robust index sets and containers are lock-free in runs in which no release, no
-- remove and no recovery is in the mode `LockIfLastIndex`, with the bounds `default_bound` and
-- `default_container_bound`. The second clause of each says that calls go on ending.
use Rattle.machine.proofs.LockFree as laws
use Rattle.machine.proofs.theorems.lock_free_by_default.Goals as goal

pub returns-clause-one_ends : goal.returns-clause-one_ends
returns-clause-one_ends g c = laws.robust_one_ends _

pub returns-clause-keep_ending : goal.returns-clause-keep_ending
returns-clause-keep_ending g c = laws.robust_keeps_ending _

pub returns-clause-container_ends : goal.returns-clause-container_ends
returns-clause-container_ends g c = laws.container_one_ends _

pub returns-clause-container_keeps_ending : goal.returns-clause-container_keeps_ending
returns-clause-container_keeps_ending g c = laws.container_keeps_ending _
