-- `Pass::history` (src/spmc/unrestricted_atomic/passes.rt): its return meets the clause `history`.
use Rattle.history.proofs.KnownRuns.{known_history}
use Rattle.lock_free_value.proofs.spmc.unrestricted_atomic.Pass.history.Goals as goal

-- what the pass has seen is a history of a run of its structure (clause `history`)
pub returns-clause-history : goal.returns-clause-history
returns-clause-history g c = known_history c.args.self.now.token.knows
