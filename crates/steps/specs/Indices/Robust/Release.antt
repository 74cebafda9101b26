-- The release of a robust set of indices, one step after another. `release_asks` says what the call asks for
-- at each stage, and `release_takes` where the answer leads: to a next stage (`GoOn`) or to its end (`Done`).
-- `release_goes_back` says whether it begins a loop again.
use Rattle.std.specs.Prelude.{ℕ, ◌==◌, Bool, false, Result, Ok, Err, if◌then◌else◌}
use Rattle.steps.specs.Indices.Robust.Parts.{cell_word, empty, exchange, raise_want, raise_after, raise_goes_back}
use Rattle.steps.specs.Indices.Robust.Parts.{first_lock, lock_want, lock_after, lock_goes_back}
use Rattle.steps.specs.declared.ask.Want.{Want}
use Rattle.steps.specs.declared.ask.After.{After}
use Rattle.steps.specs.declared.ask.After.TheVariants.{GoOn, Done}
use Rattle.steps.specs.declared.indices.enums.ReleaseMode.{ReleaseMode}
use Rattle.steps.specs.declared.indices.enums.ReleaseMode.TheVariants.{LockIfLastIndex, Default}
use Rattle.steps.specs.declared.indices.enums.ReleaseState.{ReleaseState}
use Rattle.steps.specs.declared.indices.enums.ReleaseState.TheVariants.{Unlocked}
use Rattle.steps.specs.declared.indices.enums.RobustUniqueIndexSetReleaseError.{RobustUniqueIndexSetReleaseError}
use Rattle.steps.specs.declared.indices.enums.RobustUniqueIndexSetReleaseError.TheVariants.{IndexIsNotOwnedByProvidedOwner}
use Rattle.steps.specs.declared.indices.robust.parts.Raise.{Raise}
use Rattle.steps.specs.declared.indices.robust.parts.Raise.TheVariants as raises
use Rattle.steps.specs.declared.indices.robust.parts.Lock as locks
use Rattle.steps.specs.declared.indices.robust.release.Release.{Release}
use Rattle.steps.specs.declared.indices.robust.release.GiveBack.{GiveBack}
use Rattle.steps.specs.declared.indices.robust.release.ReleaseStage.{ReleaseStage}
use Rattle.steps.specs.declared.indices.robust.release.ReleaseStage.TheVariants as releases

-- what a release ends with: the state of the set, or that the index was not its owner's
abbrev pub Released : Type 0
Released = Result ReleaseState RobustUniqueIndexSetReleaseError

-- a release before its first step
abbrev pub first_release : ℕ → Release
first_release capacity =
    record { capacity = capacity; stage = releases.EmptiesCell }

-- the release, moved to this stage
abbrev pub at_release : Release → ReleaseStage → Release
at_release call stage = record call { stage = stage }

-- what the release asks for, step by step: exchange the cell from the owner to empty; raise; lock
abbrev pub release_asks : ReleaseStage → GiveBack → Want (Unit {0})
release_asks releases.EmptiesCell given =
    exchange (cell_word given.index) given.owner empty
release_asks (releases.Raises raise) given = raise_want raise
release_asks (releases.Locks lock) given = lock_want lock

-- what the release asks for next, at the stage where it stands
abbrev pub release_want : Release → GiveBack → Want (Unit {0})
release_want call given = release_asks call.stage given

-- the release after a step of its raise: only the mode that locks goes on to lock
abbrev pub release_raised : Release → ReleaseMode → After Raise ReleaseState
    → After Release Released
release_raised call mode (GoOn raise) = GoOn (at_release call (releases.Raises raise))
release_raised call LockIfLastIndex (Done state) =
    GoOn (at_release call (releases.Locks first_lock))
release_raised call Default (Done state) = Done (Ok Unlocked)

-- the release after a step of its lock, with whose state it ends
abbrev pub release_locked : Release → After locks.Lock ReleaseState → After Release Released
release_locked call (GoOn lock) = GoOn (at_release call (releases.Locks lock))
release_locked call (Done state) = Done (Ok state)

-- Where the release goes on to from the old value of its word: it fails where the cell was not the owner's, and else
-- raises the counter and, in the mode that locks, tries to lock.
abbrev pub release_takes : Release → ReleaseStage → GiveBack → ℕ → After Release Released
release_takes call releases.EmptiesCell given old =
    if old == given.owner
    then GoOn (at_release call (releases.Raises raises.LoadsCounter))
    else Done (Err IndexIsNotOwnedByProvidedOwner)
release_takes call (releases.Raises raise) given old =
    release_raised call given.mode (raise_after raise old)
release_takes call (releases.Locks lock) given old =
    release_locked call (lock_after call.capacity lock old)

-- how the release goes on from the stage at which it is, by the old value of its word
abbrev pub release_after : Release → GiveBack → ℕ → After Release Released
release_after call given old = release_takes call call.stage given old

-- whether the release begins a loop again once it is handed this old value: another has moved the counter
abbrev pub release_goes_back : ReleaseStage → ℕ → Bool
release_goes_back releases.EmptiesCell old = false
release_goes_back (releases.Raises raise) old = raise_goes_back raise old
release_goes_back (releases.Locks lock) old = lock_goes_back lock old
