-- `UniqueIndex::give_back_or_lock` (src/mpmc/unique_index_set/handles/index.rt): its return meets the clause `given`.
use Rattle.lock_free_sets.proofs.Names.{sym, subst}
use Rattle.lock_free_sets.specs.Unique.Calls.{ReleaseOrLockDone}
use Rattle.lock_free_sets.specs.UniqueIndexSet.{index_view, value_of, view}
use Rattle.lock_free_sets.proofs.mpmc.unique_index_set.UniqueIndex.give_back_or_lock.Goals as goal

-- the release is a call of the history, which did what its answer says (clause `given`)
pub returns-clause-given : goal.returns-clause-given
returns-clause-given g c =
    subst (λ p. ReleaseOrLockDone (value_of c.args.self) c.release_or_lock-state.result (index_view c.args.self) (view p)) (sym c.handle.ensures.pass)
    c.release_or_lock-state.ensures.given
