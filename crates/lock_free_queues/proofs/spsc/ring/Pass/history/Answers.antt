-- `Pass::history` (src/spsc/ring/passes.rt): its return meets the clauses `history` and `each`.
use Rattle.history.proofs.KnownRuns.{known_history}
use Rattle.lock_free_queues.proofs.spsc.ring.Pass.history.Goals as goal

-- what the pass has seen is a history of a run of its structure (clause `history`)
pub returns-clause-history : goal.returns-clause-history
returns-clause-history g c = known_history c.args.self.now.token.knows

pub returns-clause-each : goal.returns-clause-each
returns-clause-each g c p = p.token.knows
