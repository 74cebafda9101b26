-- `tables_keep_ending` (src/lib.rt): its return meets the clauses `keep` and `asks`.
use Rattle.headline_threads.proofs.Tables as laws
use Rattle.headline_threads.proofs.tables_keep_ending.Goals as goal

pub returns-clause-keep : goal.returns-clause-keep
returns-clause-keep g c kind = laws.tables_keep_ending _ kind

pub returns-clause-asks : goal.returns-clause-asks
returns-clause-asks g c kind = laws.tables_ask _ kind
