-- For clients that take indices of one set in several threads: what a pass holds when it
-- comes back (`Holding`).
use Rattle.std.specs.Prelude.{◌≡◌, ℕ, ◌*◌, List}
use Rattle.threaded.specs.declared.share.Share.{Share}
use Rattle.lock_free_sets.specs.declared.mpmc.unique_index_set.Pass.{Pass}
use Rattle.lock_free_sets.specs.Unique.Held.{HeldBy}
use Rattle.lock_free_sets.specs.UniqueIndexSet.{made, set_of, share}

-- the two shares are the same part of the whole
abbrev pub IsAsMuch : Share → Share → Type 0
IsAsMuch s t = s.part * t.parts ≡ t.part * s.parts

-- The pass is for the set that `start` was for, has as much of the right to know the whole, and holds
-- just these indices.
pub record Holding (start : Pass) (indices : List ℕ) (now : Pass) : Type 0 where
  pub set : set_of now ≡ set_of start
  pub share : IsAsMuch (share now) (share start)
  pub held : HeldBy indices (made now)
