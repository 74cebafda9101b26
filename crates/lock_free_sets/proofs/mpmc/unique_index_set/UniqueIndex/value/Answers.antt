-- `UniqueIndex::value` (src/mpmc/unique_index_set/index.rt): its return meets the clause `below`.
use Rattle.lock_free_sets.proofs.Names.{◌<◌, subst}
use Rattle.lock_free_sets.proofs.mpmc.unique_index_set.UniqueIndex.value.Goals as goal

-- the index is below the capacity of its set (clause `below`)
pub returns-clause-below : goal.returns-clause-below
returns-clause-below c =
    let index = c.args.self.now in
    subst (λ n. index.index < n) index.pass.known (index.pass.sound.within index.index index.held)
