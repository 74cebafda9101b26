-- The recovery of a container, one step after another. T is the type of the values, size the number of their
-- words, R the room for them. `recover_asks` says what the call asks for at each stage, and `recover_takes`
-- where the answer leads: to a next stage (`GoOn`) or to its end (`Done`). `recover_kept` says what its room
-- keeps, and `recover_goes_back` whether it begins a loop again.
use Rattle.std.specs.Prelude.{ℕ, ◌+◌, ◌==◌, Bool, false, not, if◌then◌else◌, nat_lt}
use Rattle.steps.specs.Queues.Ring.{load}
use Rattle.steps.specs.Indices.Robust.Parts.{cell_word, empty, locked, exchange, raise_want, raise_after}
use Rattle.steps.specs.Indices.Robust.Parts.{raise_goes_back, first_lock, lock_want, lock_after, lock_goes_back}
use Rattle.steps.specs.Container.Layout.{change_word, count_word, element_word, is_even, add_one, hide, check}
use Rattle.steps.specs.declared.ask.Question.TheVariants as questions
use Rattle.steps.specs.declared.ask.Want.{Want}
use Rattle.steps.specs.declared.ask.Want.TheVariants as wants
use Rattle.steps.specs.declared.ask.After.{After}
use Rattle.steps.specs.declared.ask.After.TheVariants.{GoOn, Done}
use Rattle.steps.specs.declared.indices.enums.ReleaseMode.{ReleaseMode}
use Rattle.steps.specs.declared.indices.enums.ReleaseMode.TheVariants.{LockIfLastIndex, Default}
use Rattle.steps.specs.declared.indices.enums.ReleaseState.{ReleaseState}
use Rattle.steps.specs.declared.indices.enums.ReleaseState.TheVariants.{Locked, Unlocked}
use Rattle.steps.specs.declared.indices.robust.parts.Raise.{Raise}
use Rattle.steps.specs.declared.indices.robust.parts.Raise.TheVariants as raises
use Rattle.steps.specs.declared.indices.robust.parts.Lock as locks
use Rattle.steps.specs.declared.container.recover.Recover.{Recover}
use Rattle.steps.specs.declared.container.recover.RecoverStage.{RecoverStage}
use Rattle.steps.specs.declared.container.recover.RecoverStage.TheVariants as recovers
use Rattle.steps.specs.declared.container.recover.DeadOwner.{DeadOwner}

-- What the recovery asks for, step by step: load the counter; for each index load the cell, load the number of the
-- element, load its words, exchange the number for itself, ask, exchange the cell from the owner to empty, hide what
-- stands there, raise, lock; load the counter; add 1 to the changes.
abbrev pub recover_asks : (size capacity : ℕ) → RecoverStage → ℕ → Want (Unit {0})
recover_asks size capacity recovers.LoadsCounter owner = load 0
recover_asks size capacity (recovers.LoadsCell index) owner = load (cell_word index)
recover_asks size capacity (recovers.LoadsCount index) owner =
    load (count_word capacity index)
recover_asks size capacity (recovers.LoadsWord index count at) owner =
    load (element_word capacity size index at)
recover_asks size capacity (recovers.ChecksCount index count) owner =
    check capacity index count
recover_asks size capacity (recovers.Asks index count) owner =
    wants.Question (questions.Value index tt)
recover_asks size capacity (recovers.EmptiesCell index count) owner =
    exchange (cell_word index) owner empty
recover_asks size capacity (recovers.Hides index count) owner =
    hide capacity index count
recover_asks size capacity (recovers.Raises index raise) owner = raise_want raise
recover_asks size capacity (recovers.Locks index lock) owner = lock_want lock
recover_asks size capacity recovers.LoadsCounterAgain owner = load 0
recover_asks size capacity (recovers.AddsChange state) owner =
    add_one (change_word capacity)

-- each word of the element goes to its place in the room
abbrev pub recover_keeps : {R : Type 0} → (R → ℕ → ℕ → R) → RecoverStage → R → ℕ → R
recover_keeps with_word recovers.LoadsCounter room old = room
recover_keeps with_word (recovers.LoadsCell index) room old = room
recover_keeps with_word (recovers.LoadsCount index) room old = room
recover_keeps with_word (recovers.LoadsWord index count at) room old =
    with_word room at old
recover_keeps with_word (recovers.ChecksCount index count) room old = room
recover_keeps with_word (recovers.Asks index count) room old = room
recover_keeps with_word (recovers.EmptiesCell index count) room old = room
recover_keeps with_word (recovers.Hides index count) room old = room
recover_keeps with_word (recovers.Raises index raise) room old = room
recover_keeps with_word (recovers.Locks index lock) room old = room
recover_keeps with_word recovers.LoadsCounterAgain room old = room
recover_keeps with_word (recovers.AddsChange state) room old = room

-- Whether the recovery begins a loop again once it is handed this old value: the element has changed while its value
-- was copied, or another has moved the counter.
abbrev pub recover_goes_back : RecoverStage → ℕ → Bool
recover_goes_back recovers.LoadsCounter old = false
recover_goes_back (recovers.LoadsCell index) old = false
recover_goes_back (recovers.LoadsCount index) old = false
recover_goes_back (recovers.LoadsWord index count at) old = false
recover_goes_back (recovers.ChecksCount index count) old = not (old == count)
recover_goes_back (recovers.Asks index count) old = false
recover_goes_back (recovers.EmptiesCell index count) old = false
recover_goes_back (recovers.Hides index count) old = false
recover_goes_back (recovers.Raises index raise) old = raise_goes_back raise old
recover_goes_back (recovers.Locks index lock) old = lock_goes_back lock old
recover_goes_back recovers.LoadsCounterAgain old = false
recover_goes_back (recovers.AddsChange state) old = false

module _ {T R : Type 0} where
  -- the recovery goes on at this stage
  abbrev pub goes_to : Recover T R → RecoverStage → After (Recover T R) ReleaseState
  goes_to call stage = GoOn (record call { stage = stage })

  -- a recovery before its first step
  abbrev pub first_recover : ℕ → Recover T R
  first_recover capacity =
      record { capacity = capacity; stage = recovers.LoadsCounter; of = record {} }

  -- what the recovery asks for next, at the stage where it stands
  abbrev pub recover_want : ℕ → Recover T R → DeadOwner → Want (Unit {0})
  recover_want size call given = recover_asks size call.capacity call.stage given.owner

  -- the recovery goes on to the next index; after the last one it loads the counter again
  abbrev pub recover_comes_to : Recover T R → ℕ → After (Recover T R) ReleaseState
  recover_comes_to call index =
      goes_to call
      (if nat_lt index call.capacity
      then recovers.LoadsCell index
      else recovers.LoadsCounterAgain)

  -- How the recovery goes on from the number of an element: it copies the element; where there is none the index is
  -- freed without a question.
  abbrev pub recover_sees : Recover T R → (index count : ℕ) → After (Recover T R) ReleaseState
  recover_sees call index count =
      goes_to call
      (if is_even count
      then recovers.EmptiesCell index count
      else recovers.LoadsWord index count 0)

  -- the recovery counts the change, whatever it answers, and ends with this state then
  abbrev pub recover_ends : Recover T R → ReleaseState → After (Recover T R) ReleaseState
  recover_ends call state = goes_to call (recovers.AddsChange state)

  -- the recovery after a step of its raise: a locked set ends it, and only the mode that locks goes on to lock
  abbrev pub recover_raised : Recover T R → ℕ → ReleaseMode → After Raise ReleaseState
      → After (Recover T R) ReleaseState
  recover_raised call index mode (GoOn raise) =
      goes_to call (recovers.Raises index raise)
  recover_raised call index mode (Done Locked) = recover_ends call Locked
  recover_raised call index LockIfLastIndex (Done Unlocked) =
      goes_to call (recovers.Locks index first_lock)
  recover_raised call index Default (Done Unlocked) = recover_comes_to call (index + 1)

  -- the recovery after a step of its lock: it goes on to the next index, whatever the lock answers
  abbrev pub recover_locked : Recover T R → ℕ → After locks.Lock ReleaseState
      → After (Recover T R) ReleaseState
  recover_locked call index (GoOn lock) = goes_to call (recovers.Locks index lock)
  recover_locked call index (Done state) = recover_comes_to call (index + 1)

  -- the recovery goes on to raise the counter
  abbrev pub recover_raises : Recover T R → ℕ → After (Recover T R) ReleaseState
  recover_raises call index =
      goes_to call (recovers.Raises index raises.LoadsCounter)

  -- Where the recovery goes on to from the old value of its word. It copies each value of the given owner and asks
  -- about it; an index without a value it frees without a question. After a yes it empties the cell, hides the value,
  -- raises the counter and, in the mode that locks, tries to lock.
  abbrev pub recover_takes : ℕ → Recover T R → RecoverStage → DeadOwner → ℕ
      → After (Recover T R) ReleaseState
  recover_takes size call recovers.LoadsCounter given old =
      if old == locked then recover_ends call Locked else recover_comes_to call 0
  recover_takes size call (recovers.LoadsCell index) given old =
      if old == given.owner
      then goes_to call (recovers.LoadsCount index)
      else recover_comes_to call (index + 1)
  recover_takes size call (recovers.LoadsCount index) given old =
      recover_sees call index old
  recover_takes size call (recovers.LoadsWord index count at) given old =
      if nat_lt (at + 1) size
      then goes_to call (recovers.LoadsWord index count (at + 1))
      else goes_to call (recovers.ChecksCount index count)
  recover_takes size call (recovers.ChecksCount index count) given old =
      if old == count
      then goes_to call (recovers.Asks index count)
      else recover_sees call index old
  recover_takes size call (recovers.Asks index count) given old =
      if old == 0
      then recover_comes_to call (index + 1)
      else goes_to call (recovers.EmptiesCell index count)
  recover_takes size call (recovers.EmptiesCell index count) given old =
      if old == given.owner
      then (if is_even count
      then recover_raises call index
      else goes_to call (recovers.Hides index count))
      else recover_comes_to call (index + 1)
  recover_takes size call (recovers.Hides index count) given old =
      recover_raises call index
  recover_takes size call (recovers.Raises index raise) given old =
      recover_raised call index given.mode (raise_after raise old)
  recover_takes size call (recovers.Locks index lock) given old =
      recover_locked call index (lock_after call.capacity lock old)
  recover_takes size call recovers.LoadsCounterAgain given old =
      recover_ends call (if old == locked then Locked else Unlocked)
  recover_takes size call (recovers.AddsChange state) given old = Done state

  -- how the recovery goes on from the stage at which it is, by the old value of its word
  abbrev pub recover_after : ℕ → Recover T R → DeadOwner → ℕ → After (Recover T R) ReleaseState
  recover_after size call given old = recover_takes size call call.stage given old

  -- the room of the recovery after a step that was handed this old value
  abbrev pub recover_kept : (R → ℕ → ℕ → R) → Recover T R → R → ℕ → R
  recover_kept with_word call room old = recover_keeps with_word call.stage room old
