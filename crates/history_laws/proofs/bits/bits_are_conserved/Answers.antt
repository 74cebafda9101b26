-- The law `bits_are_conserved` (src/bits.rt; clauses `conserved`, `once` and `within`): each bit was set as
-- often as it was cleared, and once more where it stands; no bit at or behind the capacity was set.
use Rattle.history_laws.proofs.BitsSums.{conserved, once, within}
use Rattle.history_laws.proofs.bits.bits_are_conserved.Goals as goal

pub returns-clause-conserved : goal.returns-clause-conserved
returns-clause-conserved g c code capacity events h bit = conserved code capacity events h bit

pub returns-clause-once : goal.returns-clause-once
returns-clause-once g c code capacity events h bit = once code capacity events h bit

pub returns-clause-within : goal.returns-clause-within
returns-clause-within g c code capacity events h bit past = within code capacity events h bit past
