-- `Pass::history` (src/mpmc/container/passes.rt): its return meets the clauses `history` and `rests`.
use Rattle.history.proofs.KnownRuns.{known_history}
use Rattle.lock_free_owners.proofs.mpmc.container.Pass.history.Goals as goal

-- what the pass has seen is a history of a run of its structure (clause `history`)
pub returns-clause-history : goal.returns-clause-history
returns-clause-history g c = known_history c.args.self.now.token.knows

pub returns-clause-rests : goal.returns-clause-rests
returns-clause-rests g c = c.args.self.now.token.idle
