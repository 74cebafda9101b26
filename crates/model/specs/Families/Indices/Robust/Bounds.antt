-- How many steps a call of the robust index set takes.
use Rattle.std.specs.Prelude.{ℕ, ◌+◌, ◌*◌}
use Rattle.steps.specs.declared.indices.enums.ReleaseMode.TheVariants.{LockIfLastIndex, Default}
use Rattle.model.specs.declared.families.indices.robust.RobustStart.{RobustStart}
use Rattle.model.specs.declared.families.indices.robust.RobustStart.TheVariants.{Acquire, Release, Find, Recover, BorrowedIndices, IsLocked}

-- How many steps a call takes at most, by the capacity and by how often it has turned back to the start
-- of a loop (`backs`). A raise of the counter takes 2 steps, a count one for each cell and 2 more, a lock
-- one more than a count.
abbrev pub most_steps : ℕ → RobustStart → ℕ → ℕ
most_steps capacity (Acquire owner) backs = capacity + 3 + backs * (capacity + 1)
most_steps capacity (Release index owner Default) backs = 3 + backs
most_steps capacity (Release index owner LockIfLastIndex) backs =
    capacity + 6 + backs * (capacity + 3)
most_steps capacity (Find owner) backs = capacity
most_steps capacity (Recover Default) backs = 2 + capacity * 4 + backs
most_steps capacity (Recover LockIfLastIndex) backs =
    2 + capacity * (capacity + 7) + backs * (capacity + 3)
most_steps capacity BorrowedIndices backs = capacity + 2 + backs * (capacity + 2)
most_steps capacity IsLocked backs = 1
