-- The number of borrowed indices of a robust set, and its lock, one step after another. `.._want` says what a
-- call asks for, and `.._after` where the answer leads: to a next stage (`GoOn`) or to its end (`Done`).
-- `.._goes_back` says whether it begins a loop again.
use Rattle.std.specs.Prelude.{ℕ, ◌==◌, Bool}
use Rattle.steps.specs.Indices.Robust.Parts.{locked, count_want, count_after, count_goes_back}
use Rattle.steps.specs.declared.ask.Want.{Want}
use Rattle.steps.specs.declared.ask.After.{After}
use Rattle.steps.specs.declared.ask.After.TheVariants.{GoOn, Done}
use Rattle.steps.specs.declared.indices.robust.parts.Count.{Count}
use Rattle.steps.specs.declared.indices.robust.parts.Count.TheVariants as counts
use Rattle.steps.specs.declared.indices.robust.parts.Counted.{Counted}
use Rattle.steps.specs.declared.indices.robust.parts.Counted.TheVariants as ends
use Rattle.steps.specs.declared.indices.robust.looks.BorrowedIndices.{BorrowedIndices}
use Rattle.steps.specs.declared.indices.robust.looks.IsLocked.{IsLocked}

-- a count before its first step
abbrev pub first_borrowed : ℕ → BorrowedIndices
first_borrowed capacity = record { capacity = capacity; count = counts.LoadsCounter }

-- what the count asks for next, at the stage where it stands
abbrev pub borrowed_want : BorrowedIndices → Want (Unit {0})
borrowed_want call = count_want call.count

-- the call after a step of its count; its number is 0 once the set is locked
abbrev pub borrowed_counted : BorrowedIndices → After Count Counted
    → After BorrowedIndices ℕ
borrowed_counted call (GoOn count) = GoOn (record call { count = count })
borrowed_counted call (Done ends.Locked) = Done 0
borrowed_counted call (Done (ends.Filled filled counter)) = Done filled

-- where the count goes on to from the old value of its word
abbrev pub borrowed_after : BorrowedIndices → ℕ → After BorrowedIndices ℕ
borrowed_after call old = borrowed_counted call (count_after call.capacity call.count old)

-- whether the count begins again once it is handed this old value: the counter has moved
abbrev pub borrowed_goes_back : BorrowedIndices → ℕ → Bool
borrowed_goes_back call old = count_goes_back call.count old

-- a look at the lock ends with its one step
abbrev pub locked_after : IsLocked → ℕ → After IsLocked Bool
locked_after call old = Done (old == locked)
