-- The law `calls_keep_guarantees` (src/laws.rt): each call is wait-free, or obstruction-free, as docs/FIELD.md says; in the machine that
-- has the history no call has taken more steps than that, whatever the number of turns; the clause `steps` of each call says the same of
-- what the thread's pass has counted.
use Rattle.model.proofs.Progress.{keeps_guarantees}
use Rattle.laws_value.proofs.Sound.{kept_on}
use Rattle.lock_free_value.proofs.laws.calls_keep_guarantees.Goals as goal

pub returns : goal.returns
returns g c code events h = (let r = h.run in keeps_guarantees h.trace (kept_on h.trace r.of_kind r.reached.coded r.fresh))
