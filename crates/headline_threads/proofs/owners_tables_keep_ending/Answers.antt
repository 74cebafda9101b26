-- `owners_tables_keep_ending` (src/lib.rt): its return meets the clauses `robust`, `robust_asks`, `container` and `container_asks`.
use Rattle.headline_threads.proofs.Tables as laws
use Rattle.headline_threads.proofs.owners_tables_keep_ending.Goals as goal

pub returns-clause-robust : goal.returns-clause-robust
returns-clause-robust g c = laws.robust_keeps_ending _

pub returns-clause-robust_asks : goal.returns-clause-robust_asks
returns-clause-robust_asks g c = laws.robust_asks _

pub returns-clause-container : goal.returns-clause-container
returns-clause-container g c = laws.container_keeps_ending _

pub returns-clause-container_asks : goal.returns-clause-container_asks
returns-clause-container_asks g c = laws.container_asks _
