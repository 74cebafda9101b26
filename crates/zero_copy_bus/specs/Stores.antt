-- What clauses see of the store of a bus: its set of free slots.
use Rattle.lock_free_sets.specs.declared.mpmc.unique_index_set.UniqueIndexSet.{UniqueIndexSet}
use Rattle.zero_copy_slots.specs.declared.Keeps.{Ghosts}
use Rattle.zero_copy_bus.specs.declared.store.Store.{Store}

module _ {X K : Type 0} {rule : Ghosts K X} where
  -- the set of free slots
  abbrev pub set_in : Store X K rule → UniqueIndexSet
  set_in store = store.set
