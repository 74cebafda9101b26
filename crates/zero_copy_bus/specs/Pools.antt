-- What clauses see of a pool of slots: its table of holders, and the publisher's pass of
-- its set of free slots.
use Rattle.std.specs.Prelude.{◌≡◌, ℕ, List}
use Rattle.threaded.specs.declared.share.Share.{Share}
use Rattle.lock_free_sets.specs.UniqueIndexSet.{SetId, capacity_of, set_of, share}
use Rattle.zero_copy_bus.specs.declared.holders.Holders.{Holders}
use Rattle.zero_copy_bus.specs.declared.pool.Pool.{Pool}

-- who holds each slot
abbrev pub table_of : Pool → List Holders
table_of pool = pool.table.items

-- how many slots the pool's set has
abbrev pub slots_of : Pool → ℕ
slots_of pool = capacity_of pool.set.now

-- of which set the pool's pass is
abbrev pub set_in : Pool → SetId
set_in pool = set_of pool.pass

-- which share of that set's history the pass has
abbrev pub share_in : Pool → Share
share_in pool = share pool.pass

-- The pool has the same set and the same share, whatever its table is now.
pub record IsSame (old new : Pool) : Type 0 where
  pub set : set_in new ≡ set_in old
  pub share : share_in new ≡ share_in old
  pub slots : slots_of new ≡ slots_of old
