-- How many steps a call of the unique index set takes.
use Rattle.std.specs.Prelude.{ℕ, ◌+◌, ◌*◌, max}
use Rattle.steps.specs.declared.indices.enums.ReleaseMode.TheVariants.{LockIfLastIndex, Default}
use Rattle.model.specs.declared.families.indices.IndexStart.{IndexStart}
use Rattle.model.specs.declared.families.indices.IndexStart.TheVariants.{Acquire, Release, BorrowedIndices, IsLocked}

-- How many steps a call takes at most, by the capacity and by how often it has turned back to the start
-- of a loop (`backs`). A turn to the head takes 2 steps, a scan of the flags one for each flag.
abbrev pub most_steps : ℕ → IndexStart → ℕ → ℕ
most_steps capacity Acquire backs = 4 + capacity + backs * max 2 capacity
most_steps capacity (Release index Default) backs = 5
most_steps capacity (Release index LockIfLastIndex) backs = 4 + backs * 2
most_steps capacity BorrowedIndices backs = 1
most_steps capacity IsLocked backs = 1
