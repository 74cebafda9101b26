-- The law `unique_index_set_is_the_code` (src/lib.rt; clauses `code`, `acquires`, `releases`, `locking_releases` and `machine`): the
-- page of the unique index set is about the code, and about machines.
use Rattle.pages.proofs.UniqueIndexSet as unique
use Rattle.pages.proofs.UniqueRuns.{runs}
use Rattle.pages.proofs.unique_index_set_is_the_code.Goals as goal

pub returns-clause-code : goal.returns-clause-code
returns-clause-code c = unique.code

pub returns-clause-acquires : goal.returns-clause-acquires
returns-clause-acquires c = unique.by_acquires

pub returns-clause-releases : goal.returns-clause-releases
returns-clause-releases c = unique.by_releases

pub returns-clause-locking_releases : goal.returns-clause-locking_releases
returns-clause-locking_releases c = unique.by_locking_releases

pub returns-clause-machine : goal.returns-clause-machine
returns-clause-machine c = runs
