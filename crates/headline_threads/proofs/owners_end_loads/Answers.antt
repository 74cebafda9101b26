-- `owners_end_loads` (src/lib.rt): its return meets the clauses `robust_between`, `robust_load`, `robust_asks`, `robust_rest`,
-- `container_between`, `container_load`, `container_asks` and `container_rest`.
use Rattle.headline_threads.proofs.Ending as laws
use Rattle.headline_threads.proofs.owners_end_loads.Goals as goal

pub returns-clause-robust_between : goal.returns-clause-robust_between
returns-clause-robust_between g c = (laws.robust_by_default _).between

pub returns-clause-robust_load : goal.returns-clause-robust_load
returns-clause-robust_load g c = (laws.robust_by_default _).load

pub returns-clause-robust_asks : goal.returns-clause-robust_asks
returns-clause-robust_asks g c = (laws.robust_by_default _).asks

pub returns-clause-robust_rest : goal.returns-clause-robust_rest
returns-clause-robust_rest g c = (laws.robust_by_default _).rest

pub returns-clause-container_between : goal.returns-clause-container_between
returns-clause-container_between g c = (laws.container_by_default _).between

pub returns-clause-container_load : goal.returns-clause-container_load
returns-clause-container_load g c = (laws.container_by_default _).load

pub returns-clause-container_asks : goal.returns-clause-container_asks
returns-clause-container_asks g c = (laws.container_by_default _).asks

pub returns-clause-container_rest : goal.returns-clause-container_rest
returns-clause-container_rest g c = (laws.container_by_default _).rest
