-- The law `counts_are_conserved` (src/counts.rt; clauses `conserved` and `within`): what was counted at a
-- place is what was taken out of it in all, and what stands there; at no place at or behind the capacity
-- anything was counted.
use Rattle.history_laws.proofs.CountsSums.{conserved, within}
use Rattle.history_laws.proofs.counts.counts_are_conserved.Goals as goal

pub returns-clause-conserved : goal.returns-clause-conserved
returns-clause-conserved g c code capacity events h place = conserved code capacity events h place

pub returns-clause-within : goal.returns-clause-within
returns-clause-within g c code capacity events h place past = within code capacity events h place past
