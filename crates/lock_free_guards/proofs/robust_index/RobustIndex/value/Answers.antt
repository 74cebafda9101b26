-- `RobustIndex::value` (src/robust_index/calls.rt): its return meets the clause `below`.
use Rattle.std.proofs.Common.{◌<◌, ap, subst, sym}
use Rattle.threaded.specs.Sets.{SetId}
use Rattle.lock_free_guards.proofs.robust_index.RobustIndex.value.Goals as goal

-- the index is below the capacity of its set (clause `below`)
pub returns-clause-below : goal.returns-clause-below
returns-clause-below g c =
    let i = c.args.self.now in
    subst (λ n. i.index < n) (sym (ap (λ (z : SetId). z.capacity) i.of)) i.within
