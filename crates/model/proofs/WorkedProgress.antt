-- A worked run in which retries are paid by calls that do not end: two releases that would lock a robust index set make each
-- other begin again.
use Rattle.model.proofs.Names.{List, LockIfLastIndex, Some, Trace, Turn, false, one_word, progress_in, refl, ℕ, ◌++◌}
use Rattle.model.proofs.Names.{◌≡◌}
use Rattle.model.specs.declared.event.Start.TheVariants.{Robust}
use Rattle.model.specs.declared.families.indices.robust.RobustStart.TheVariants.{Acquire, Release}
use Rattle.model.specs.declared.turn.Kind.TheVariants as kinds
use Rattle.model.proofs.Runs.{nexts, begins, ran}

-- Each release has emptied its cell, and has counted that no cell has an owner.
abbrev pub both_count : List (Turn ℕ)
both_count =
    begins 0 (Robust (Acquire 1)) 4
    ++ (begins 1 (Robust (Acquire 2)) 5
    ++ (begins 0 (Robust (Release 0 1 LockIfLastIndex)) 3
    ++ (begins 1 (Robust (Release 1 2 LockIfLastIndex)) 3 ++ (nexts 0 4 ++ nexts 1 4))))

-- Each release finds the counter changed by the count of the other one, and counts again.
abbrev pub round : List (Turn ℕ)
round = nexts 0 5 ++ nexts 1 5

-- Both releases have counted, and three rounds have turned each back.
abbrev after_three : Trace ℕ
after_three = ran one_word kinds.Robust 2 2 (both_count ++ (round ++ (round ++ round)))

-- After three rounds the call of party 0 has turned back three times and is under way.
pub first_goes_back : progress_in after_three.world 0 ≡ Some (record { steps = 22; backs = 3; others = 6; finished = false })
first_goes_back = refl

-- After three rounds the call of party 1 has turned back three times and is under way.
pub second_goes_back : progress_in after_three.world 1 ≡ Some (record { steps = 22; backs = 3; others = 4; finished = false })
second_goes_back = refl
