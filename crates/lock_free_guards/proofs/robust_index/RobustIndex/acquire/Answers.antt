-- `RobustIndex::acquire` (src/robust_index/calls.rt): its return meets the clause `acquired`.
use Rattle.lock_free_owners.specs.RobustUniqueIndexSet.{view}
use Rattle.lock_free_guards.proofs.Grants.{acquired}
use Rattle.lock_free_guards.proofs.robust_index.RobustIndex.acquire.Goals as goal

-- a try that took an index ends as clause `acquired` says
pub returns-in-Ok-clause-acquired : goal.returns-in-Ok-clause-acquired
returns-in-Ok-clause-acquired g c =
    let took = c.in-Ok.ensures.acquired in
    acquired c.args.owner c.in-Ok.index (view c.args.pass) (view c.acquire.new.pass) took.taken took.filled took.granted
