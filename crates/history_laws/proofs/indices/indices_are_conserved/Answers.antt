-- The law `indices_are_conserved` (src/indices.rt; clauses `conserved` and `within`): each index
-- was claimed as often as it was freed, and once more where somebody holds it; no index at or
-- behind the capacity was claimed.
use Rattle.history_laws.proofs.IndicesLaws.{conserved, within}
use Rattle.history_laws.proofs.indices.indices_are_conserved.Goals as goal

pub returns-clause-conserved : goal.returns-clause-conserved
returns-clause-conserved g c code capacity events h index = conserved code capacity events h index

pub returns-clause-within : goal.returns-clause-within
returns-clause-within g c code capacity events h index past = within code capacity events h index past
