-- The acquire of a robust set of indices, one step after another. `acquire_asks` says what the call asks for
-- at each stage, and `acquire_takes` where the answer leads: to a next stage (`GoOn`) or to its end (`Done`).
-- `acquire_goes_back` says whether it begins a loop again.
use Rattle.std.specs.Prelude.{ℕ, ◌+◌, ◌==◌, Bool, false, not, Result, Ok, Err, if◌then◌else◌, nat_lt}
use Rattle.steps.specs.Queues.Ring.{load}
use Rattle.steps.specs.Indices.Robust.Parts.{cell_word, empty, locked, greatest, exchange, raise_want, raise_after, raise_goes_back}
use Rattle.steps.specs.declared.ask.Want.{Want}
use Rattle.steps.specs.declared.ask.After.{After}
use Rattle.steps.specs.declared.ask.After.TheVariants.{GoOn, Done}
use Rattle.steps.specs.declared.indices.enums.ReleaseState.{ReleaseState}
use Rattle.steps.specs.declared.indices.enums.ReleaseState.TheVariants.{Locked, Unlocked}
use Rattle.steps.specs.declared.indices.enums.UniqueIndexSetAcquireFailure.{UniqueIndexSetAcquireFailure}
use Rattle.steps.specs.declared.indices.enums.UniqueIndexSetAcquireFailure.TheVariants as failures
use Rattle.steps.specs.declared.indices.robust.parts.Raise.{Raise}
use Rattle.steps.specs.declared.indices.robust.parts.Raise.TheVariants as raises
use Rattle.steps.specs.declared.indices.robust.acquire.Acquire.{Acquire}
use Rattle.steps.specs.declared.indices.robust.acquire.AcquireStage.{AcquireStage}
use Rattle.steps.specs.declared.indices.robust.acquire.AcquireStage.TheVariants as acquires

-- what an acquire ends with: an index, or why there is none
abbrev pub Acquired : Type 0
Acquired = Result ℕ UniqueIndexSetAcquireFailure

-- an acquire before its first step
abbrev pub first_acquire : ℕ → Acquire
first_acquire capacity =
    record { capacity = capacity; stage = acquires.LoadsCounter }

-- the acquire, moved to this stage
abbrev pub at_acquire : Acquire → AcquireStage → Acquire
at_acquire call stage = record call { stage = stage }

-- What the acquire asks for, step by step: load the counter; exchange the cells from empty to the owner; exchange the
-- counter for itself; raise.
abbrev pub acquire_asks : AcquireStage → ℕ → Want (Unit {0})
acquire_asks acquires.LoadsCounter owner = load 0
acquire_asks (acquires.FillsCell counter index) owner =
    exchange (cell_word index) empty owner
acquire_asks (acquires.ChecksCounter counter) owner = exchange 0 counter counter
acquire_asks (acquires.Raises index raise) owner = raise_want raise

-- what the acquire asks for next, at the stage where it stands
abbrev pub acquire_want : Acquire → ℕ → Want (Unit {0})
acquire_want call owner = acquire_asks call.stage owner

-- the acquire goes on to the next cell; after the last one it checks the counter
abbrev pub acquire_tries : Acquire → (counter index : ℕ) → After Acquire Acquired
acquire_tries call counter index =
    GoOn
    (at_acquire call
    (if nat_lt index call.capacity
    then acquires.FillsCell counter index
    else acquires.ChecksCounter counter))

-- How the acquire goes on from this counter:
-- it fails where that is the lock's or at its end, and else tries the first cell.
abbrev pub acquire_sees : Acquire → ℕ → After Acquire Acquired
acquire_sees call counter =
    if counter == locked
    then Done (Err failures.IsLocked)
    else if counter == greatest
    then Done (Err failures.OutOfIndices)
    else acquire_tries call counter 0

-- the acquire after a step of its raise: it answers the index, unless the set is locked by now
abbrev pub acquire_raised : Acquire → ℕ → After Raise ReleaseState → After Acquire Acquired
acquire_raised call index (GoOn raise) =
    GoOn (at_acquire call (acquires.Raises index raise))
acquire_raised call index (Done Locked) = Done (Err failures.IsLocked)
acquire_raised call index (Done Unlocked) = Done (Ok index)

-- Where the acquire goes on to from the old value of its word: it fills the first empty cell that it finds, and raises
-- the counter then. Where no cell was empty it ends, unless the counter has moved.
abbrev pub acquire_takes : Acquire → AcquireStage → ℕ → After Acquire Acquired
acquire_takes call acquires.LoadsCounter old = acquire_sees call old
acquire_takes call (acquires.FillsCell counter index) old =
    if old == empty
    then GoOn (at_acquire call (acquires.Raises index raises.LoadsCounter))
    else acquire_tries call counter (index + 1)
acquire_takes call (acquires.ChecksCounter counter) old =
    if old == counter then Done (Err failures.OutOfIndices) else acquire_sees call old
acquire_takes call (acquires.Raises index raise) old =
    acquire_raised call index (raise_after raise old)

-- how the acquire goes on from the stage at which it is, by the old value of its word
abbrev pub acquire_after : Acquire → ℕ → After Acquire Acquired
acquire_after call old = acquire_takes call call.stage old

-- Whether an exchange of the counter by the acquire has failed with this old value: another has moved the counter. The acquire
-- then begins a loop again, or ends if it finds the set locked.
abbrev pub acquire_goes_back : AcquireStage → ℕ → Bool
acquire_goes_back acquires.LoadsCounter old = false
acquire_goes_back (acquires.FillsCell counter index) old = false
acquire_goes_back (acquires.ChecksCounter counter) old = not (old == counter)
acquire_goes_back (acquires.Raises index raise) old = raise_goes_back raise old
