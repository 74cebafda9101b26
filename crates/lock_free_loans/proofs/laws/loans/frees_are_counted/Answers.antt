-- The law `frees_are_counted` (src/laws/loans.rt; clauses `freed` and `claimed`): a pass that frees a list of indices in turn frees each
-- as often as it stands there; it claims nothing.
use Rattle.lock_free_loans.proofs.Loan.Contracts.{claims_in_turn, freed_in_turn}
use Rattle.lock_free_loans.proofs.laws.loans.frees_are_counted.Goals as goal

-- An index is freed as often as it stands in the list.
pub returns-clause-freed : goal.returns-clause-freed
returns-clause-freed c is old new h i = freed_in_turn is old new h i

-- Frees in turn claim no index.
pub returns-clause-claimed : goal.returns-clause-claimed
returns-clause-claimed c is old new h i = claims_in_turn is old new h i
