-- The law `single_value_is_the_code` (src/lib.rt; clauses `code`, `machine`, `stores` and `loads`): the page of the single value is
-- about the code, and about machines of as many parties as its turns name, from where party 0 has the role.
use Rattle.pages.proofs.Value as single
use Rattle.pages.proofs.single_value_is_the_code.Goals as goal

pub returns-clause-code : goal.returns-clause-code
returns-clause-code c = single.code

pub returns-clause-machine : goal.returns-clause-machine
returns-clause-machine c = single.runs

pub returns-clause-stores : goal.returns-clause-stores
returns-clause-stores c = single.by_stores

pub returns-clause-loads : goal.returns-clause-loads
returns-clause-loads c = single.by_loads
