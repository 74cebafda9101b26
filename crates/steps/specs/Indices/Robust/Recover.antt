-- The recovery of a robust set of indices, one step after another. `recover_asks` says what the call asks for
-- at each stage, and `recover_takes` where the answer leads: to a next stage (`GoOn`) or to its end (`Done`).
-- `recover_goes_back` says whether it begins a loop again.
use Rattle.std.specs.Prelude.{ℕ, ◌+◌, ◌==◌, Bool, false, Option, Some, None, if◌then◌else◌, nat_lt}
use Rattle.steps.specs.Queues.Ring.{load}
use Rattle.steps.specs.Indices.Robust.Parts.{cell_word, empty, locked, exchange, raise_want, raise_after}
use Rattle.steps.specs.Indices.Robust.Parts.{raise_goes_back, first_lock, lock_want, lock_after, lock_goes_back}
use Rattle.steps.specs.declared.ask.Question.TheVariants as questions
use Rattle.steps.specs.declared.ask.Want.{Want}
use Rattle.steps.specs.declared.ask.Want.TheVariants as wants
use Rattle.steps.specs.declared.ask.After.{After}
use Rattle.steps.specs.declared.ask.After.TheVariants.{GoOn, Done}
use Rattle.steps.specs.declared.indices.enums.ReleaseMode.{ReleaseMode}
use Rattle.steps.specs.declared.indices.enums.ReleaseMode.TheVariants.{LockIfLastIndex, Default}
use Rattle.steps.specs.declared.indices.enums.ReleaseState.{ReleaseState}
use Rattle.steps.specs.declared.indices.enums.ReleaseState.TheVariants.{Locked, Unlocked}
use Rattle.steps.specs.declared.indices.robust.parts.Raise.{Raise}
use Rattle.steps.specs.declared.indices.robust.parts.Raise.TheVariants as raises
use Rattle.steps.specs.declared.indices.robust.parts.Lock as locks
use Rattle.steps.specs.declared.indices.robust.recover.Recover.{Recover}
use Rattle.steps.specs.declared.indices.robust.recover.RecoverStage.{RecoverStage}
use Rattle.steps.specs.declared.indices.robust.recover.RecoverStage.TheVariants as recovers

-- a recovery before its first step
abbrev pub first_recover : ℕ → Recover
first_recover capacity =
    record { capacity = capacity; stage = recovers.LoadsCounter }

-- the recovery, moved to this stage
abbrev pub at_recover : Recover → RecoverStage → Recover
at_recover call stage = record call { stage = stage }

-- What the recovery asks for, step by step: load the counter; for each index load the cell, ask, exchange the cell from
-- the owner found to empty, raise, lock; load the counter.
abbrev pub recover_asks : RecoverStage → Want (Unit {0})
recover_asks recovers.LoadsCounter = load 0
recover_asks (recovers.LoadsCell index) = load (cell_word index)
recover_asks (recovers.Asks index owner) =
    wants.Question (questions.Owned owner index)
recover_asks (recovers.EmptiesCell index owner) =
    exchange (cell_word index) owner empty
recover_asks (recovers.Raises index raise) = raise_want raise
recover_asks (recovers.Locks index lock) = lock_want lock
recover_asks recovers.LoadsCounterAgain = load 0

-- what the recovery asks for next, at the stage where it stands
abbrev pub recover_want : Recover → Want (Unit {0})
recover_want call = recover_asks call.stage

-- the recovery goes on to the next index; after the last one it loads the counter again
abbrev pub recover_comes_to : Recover → ℕ → After Recover ReleaseState
recover_comes_to call index =
    GoOn
    (at_recover call
    (if nat_lt index call.capacity
    then recovers.LoadsCell index
    else recovers.LoadsCounterAgain))

-- the recovery after a step of its raise: a locked set ends it, and only the mode that locks goes on to lock
abbrev pub recover_raised : Recover → ℕ → ReleaseMode → After Raise ReleaseState
    → After Recover ReleaseState
recover_raised call index mode (GoOn raise) =
    GoOn (at_recover call (recovers.Raises index raise))
recover_raised call index mode (Done Locked) = Done Locked
recover_raised call index LockIfLastIndex (Done Unlocked) =
    GoOn (at_recover call (recovers.Locks index first_lock))
recover_raised call index Default (Done Unlocked) = recover_comes_to call (index + 1)

-- the recovery after a step of its lock: it goes on to the next index, whatever the lock answers
abbrev pub recover_locked : Recover → ℕ → After locks.Lock ReleaseState → After Recover ReleaseState
recover_locked call index (GoOn lock) =
    GoOn (at_recover call (recovers.Locks index lock))
recover_locked call index (Done state) = recover_comes_to call (index + 1)

-- Where the recovery goes on to from the old value of its word: it visits each filled cell, asks whether its owner is
-- dead, and after a yes it empties the cell, raises the counter and, in the mode that locks, tries to lock.
abbrev pub recover_takes : Recover → RecoverStage → ReleaseMode → ℕ
    → After Recover ReleaseState
recover_takes call recovers.LoadsCounter mode old =
    if old == locked then Done Locked else recover_comes_to call 0
recover_takes call (recovers.LoadsCell index) mode old =
    if old == empty
    then recover_comes_to call (index + 1)
    else GoOn (at_recover call (recovers.Asks index old))
recover_takes call (recovers.Asks index owner) mode old =
    if old == 0
    then recover_comes_to call (index + 1)
    else GoOn (at_recover call (recovers.EmptiesCell index owner))
recover_takes call (recovers.EmptiesCell index owner) mode old =
    if old == owner
    then GoOn (at_recover call (recovers.Raises index raises.LoadsCounter))
    else recover_comes_to call (index + 1)
recover_takes call (recovers.Raises index raise) mode old =
    recover_raised call index mode (raise_after raise old)
recover_takes call (recovers.Locks index lock) mode old =
    recover_locked call index (lock_after call.capacity lock old)
recover_takes call recovers.LoadsCounterAgain mode old =
    Done (if old == locked then Locked else Unlocked)

-- how the recovery goes on from the stage at which it is, by the old value of its word
abbrev pub recover_after : Recover → ReleaseMode → ℕ → After Recover ReleaseState
recover_after call mode old = recover_takes call call.stage mode old

-- the owner and the index of the cell that the step has emptied, if it has emptied one
abbrev pub recover_frees : RecoverStage → ℕ → Option (ℕ × ℕ)
recover_frees recovers.LoadsCounter old = None
recover_frees (recovers.LoadsCell index) old = None
recover_frees (recovers.Asks index owner) old = None
recover_frees (recovers.EmptiesCell index owner) old =
    if old == owner then Some (owner, index) else None
recover_frees (recovers.Raises index raise) old = None
recover_frees (recovers.Locks index lock) old = None
recover_frees recovers.LoadsCounterAgain old = None

-- whether the recovery begins a loop again once it is handed this old value: another has moved the counter
abbrev pub recover_goes_back : RecoverStage → ℕ → Bool
recover_goes_back recovers.LoadsCounter old = false
recover_goes_back (recovers.LoadsCell index) old = false
recover_goes_back (recovers.Asks index owner) old = false
recover_goes_back (recovers.EmptiesCell index owner) old = false
recover_goes_back (recovers.Raises index raise) old = raise_goes_back raise old
recover_goes_back (recovers.Locks index lock) old = lock_goes_back lock old
recover_goes_back recovers.LoadsCounterAgain old = false
