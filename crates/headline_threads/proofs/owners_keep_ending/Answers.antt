-- The law `owners_keep_ending` (src/lib.rt; clauses `robust`, `robust_keep`, `robust_known`, `container`, `container_keep` and
-- `container_known`): of robust index sets and containers, where a pass has seen no call begin that may lock, what
-- `passes_keep_ending` says of other kinds.
use Rattle.headline_threads.proofs.Ending as laws
use Rattle.headline_threads.proofs.owners_keep_ending.Goals as goal

pub returns-clause-robust : goal.returns-clause-robust
returns-clause-robust g c = (laws.robust_by_default _).end

pub returns-clause-robust_keep : goal.returns-clause-robust_keep
returns-clause-robust_keep g c = (laws.robust_by_default _).keep

pub returns-clause-robust_known : goal.returns-clause-robust_known
returns-clause-robust_known g c = (laws.robust_by_default _).known

pub returns-clause-container : goal.returns-clause-container
returns-clause-container g c = (laws.container_by_default _).end

pub returns-clause-container_keep : goal.returns-clause-container_keep
returns-clause-container_keep g c = (laws.container_by_default _).keep

pub returns-clause-container_known : goal.returns-clause-container_known
returns-clause-container_known g c = (laws.container_by_default _).known
