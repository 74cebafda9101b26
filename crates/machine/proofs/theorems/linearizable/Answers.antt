-- The law `linearizable` (src/theorems.rt): a run that keeps the promises of its kind is linearizable: the pushes and pops of a queue,
-- the stores and loads of the single value.
use Rattle.model.proofs.Linearizable.Kinds as laws
use Rattle.machine.proofs.theorems.linearizable.Goals as goal

pub returns : goal.returns
returns g c t kept = laws.run_linearizable t kept
