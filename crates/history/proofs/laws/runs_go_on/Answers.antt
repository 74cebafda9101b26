-- The law `runs_go_on` (src/laws.rt; clauses `calls`, `splits`, `joins`, `first` and `tables`): from call to
-- call, and over splits and joins, the run that a pass knew goes on to the one that it knows, and any two
-- seats of a table know one run.
use Rattle.history.proofs.OneRun.{continues_further, continues_split, continues_join, knows_first, seats_know_one}
use Rattle.history.proofs.laws.runs_go_on.Goals as goal

pub returns-clause-calls : goal.returns-clause-calls
returns-clause-calls g c code kind capacity x y z to_y to_z = continues_further code kind capacity x y z to_y.first to_z

pub returns-clause-splits : goal.returns-clause-splits
returns-clause-splits g c code kind capacity old left right cut knows = continues_split code kind capacity cut knows

pub returns-clause-joins : goal.returns-clause-joins
returns-clause-joins g c code kind capacity mine theirs new joined knows = continues_join code kind capacity joined knows

pub returns-clause-first : goal.returns-clause-first
returns-clause-first g c code kind capacity coded admitted = knows_first code kind capacity coded admitted

pub returns-clause-tables : goal.returns-clause-tables
returns-clause-tables g c code kind capacity s m = seats_know_one code kind capacity m
