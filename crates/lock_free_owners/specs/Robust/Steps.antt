-- How many atomic steps a release and a recovery of a robust unique index set take: a number for a call
-- alone, and a number for each change of a word by others.
use Rattle.std.specs.Prelude.{ℕ, ◌+◌, ◌*◌}
use Rattle.steps.specs.declared.indices.enums.ReleaseMode.{ReleaseMode}
use Rattle.steps.specs.declared.indices.enums.ReleaseMode.TheVariants.{Default, LockIfLastIndex}
use Rattle.history.specs.declared.view.View.{View}
use Rattle.history.specs.Steps.{TakesAlone}

-- a release by the mode: 3 steps alone and 1 for each change by others in mode Default, and counts of the
-- capacity where it may lock
abbrev pub ReleaseTakes : ℕ → ReleaseMode → View ℕ → View ℕ → Type 0
ReleaseTakes capacity Default = TakesAlone 3 1
ReleaseTakes capacity LockIfLastIndex = TakesAlone (capacity + 6) (capacity + 3)

-- a recovery by the mode: 2 steps, and for each index 4, or `capacity + 7` where it may lock; besides, a number
-- for each change by others
abbrev pub RecoverTakes : ℕ → ReleaseMode → View ℕ → View ℕ → Type 0
RecoverTakes capacity Default = TakesAlone (2 + capacity * 4) 1
RecoverTakes capacity LockIfLastIndex = TakesAlone (2 + capacity * (capacity + 7)) (capacity + 3)
