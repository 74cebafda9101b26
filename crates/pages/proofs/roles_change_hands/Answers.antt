-- The law `roles_change_hands` (src/lib.rt; clauses `index`, `overflowing`, `value` and `values`): roles change hands: on the model's
-- machine, with neither a bound of parties nor one of turns, parties acquire the roles and give them back, and look.
use Rattle.pages.proofs.IndexByRole as index
use Rattle.pages.proofs.OverflowingByRole as overflowing
use Rattle.pages.proofs.ValueByRole as value
use Rattle.pages.proofs.ValuesByRole as values
use Rattle.pages.proofs.roles_change_hands.Goals as goal

pub returns-clause-index : goal.returns-clause-index
returns-clause-index g c capacity few = index.runs_by_role capacity few

pub returns-clause-overflowing : goal.returns-clause-overflowing
returns-clause-overflowing g c capacity more = overflowing.runs_by_role capacity more

pub returns-clause-value : goal.returns-clause-value
returns-clause-value g c = value.runs_by_role

pub returns-clause-values : goal.returns-clause-values
returns-clause-values g c how capacity few = values.runs_by_role how capacity few
