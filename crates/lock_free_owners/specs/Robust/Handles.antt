-- A handle of a robust unique index set: the set, and the pass that its calls are made with; and what they keep of it.
use Rattle.std.specs.Prelude.{◌≡◌, ℕ, ◌+◌}
use Rattle.history.specs.declared.view.View.{View}
use Rattle.lock_free_owners.specs.declared.mpmc.robust_unique_index_set.RobustUniqueIndexSet.{RobustUniqueIndexSet}
use Rattle.lock_free_owners.specs.declared.mpmc.robust_unique_index_set.Pass.{Pass}
use Rattle.lock_free_owners.specs.declared.mpmc.robust_unique_index_set.handles.Handle.{Handle}
use Rattle.lock_free_owners.specs.RobustUniqueIndexSet.{capacity_of, view, LeavesPass, SamePass}

-- the set of a handle
abbrev pub set_in : Handle → RobustUniqueIndexSet
set_in h = h.set.now

-- the pass of a handle
abbrev pub pass_in : Handle → Pass
pass_in h = h.pass

-- what its pass knows
abbrev pub knows : Handle → View ℕ
knows h = view h.pass

-- what each call but a find keeps of a handle: its set, and of its pass what the set's call keeps
pub record SameHandle (old new : Handle) : Type 0 where
  pub set : set_in new ≡ set_in old
  pub pass : SamePass (pass_in old) (pass_in new)

-- what a find keeps of a handle: its set, and of its pass what the set's `find` keeps, with one look
-- aside for each cell
pub record FindKeepsHandle (old new : Handle) : Type 0 where
  pub set : set_in new ≡ set_in old
  pub pass : LeavesPass (capacity_of (set_in old) + 1) (pass_in old) (pass_in new)
