-- A handle of a unique index set: the set, and the pass that its calls are made with; and what they keep of it.
use Rattle.std.specs.Prelude.{◌≡◌, ℕ}
use Rattle.history.specs.declared.view.View.{View}
use Rattle.lock_free_sets.specs.declared.mpmc.unique_index_set.UniqueIndexSet.{UniqueIndexSet}
use Rattle.lock_free_sets.specs.declared.mpmc.unique_index_set.Pass.{Pass}
use Rattle.lock_free_sets.specs.declared.mpmc.unique_index_set.handles.Handle.{Handle}
use Rattle.lock_free_sets.specs.UniqueIndexSet.{view, SamePass}

-- the set of a handle
abbrev pub set_in : Handle → UniqueIndexSet
set_in h = h.set.now

-- the pass of a handle
abbrev pub pass_in : Handle → Pass
pass_in h = h.pass

-- all that its pass knows
abbrev pub knows : Handle → View ℕ
knows h = view h.pass

-- what each call by a handle keeps of it: its set, and of its pass what each call of the set keeps
pub record SameHandle (old new : Handle) : Type 0 where
  pub set : set_in new ≡ set_in old
  pub pass : SamePass (pass_in old) (pass_in new)
