-- What clauses see of an index that is held for an owner, with the pass that it owns.
use Rattle.std.specs.Prelude.{ℕ}
use Rattle.threaded.specs.Sets.{SetId}
use Rattle.history.specs.declared.view.View.{View}
use Rattle.lock_free_owners.specs.declared.mpmc.robust_unique_index_set.Pass.{Pass}
use Rattle.lock_free_owners.specs.RobustUniqueIndexSet.{set_of, view}
use Rattle.lock_free_guards.specs.declared.robust_index.RobustIndex.{RobustIndex}

module _ {R : Type 0} where
  -- the index
  abbrev pub value_of : RobustIndex R → ℕ
  value_of i = i.index

  -- whose index it is
  abbrev pub owner_of : RobustIndex R → ℕ
  owner_of i = i.owner

  -- the pass to which the index goes back
  abbrev pub index_pass : RobustIndex R → Pass
  index_pass i = i.pass

  -- all that the index's pass knows
  abbrev pub index_view : RobustIndex R → View ℕ
  index_view i = view i.pass

  -- the set of the index
  abbrev pub index_set : RobustIndex R → SetId
  index_set i = set_of i.pass
