-- `Pass::history` (src/mpmc/robust_unique_index_set/passes.rt): its return meets the clause `history`.
use Rattle.history.proofs.KnownRuns.{known_history}
use Rattle.lock_free_owners.proofs.mpmc.robust_unique_index_set.Pass.history.Goals as goal

-- what the pass has seen is a history of a run of its structure (clause `history`)
pub returns-clause-history : goal.returns-clause-history
returns-clause-history c = known_history c.args.self.now.knows
