-- `refused` (src/wrong.rt): its return meets the clauses `oldest`, `closed`, `asked`, `told` and `split`.
use Rattle.uses_laws.proofs.WrongHistories as wrong
use Rattle.uses_laws.proofs.wrong.refused.Goals as goal

pub returns-clause-oldest : goal.returns-clause-oldest
returns-clause-oldest c k = wrong.takes_the_second k

pub returns-clause-closed : goal.returns-clause-closed
returns-clause-closed c k = wrong.loses_one k

pub returns-clause-asked : goal.returns-clause-asked
returns-clause-asked c k = wrong.asks_nobody k

pub returns-clause-told : goal.returns-clause-told
returns-clause-told c k = wrong.tells_nobody k

pub returns-clause-split : goal.returns-clause-split
returns-clause-split c k = wrong.takes_the_party k
