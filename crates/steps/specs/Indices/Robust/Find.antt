-- The find of a robust set of indices, one step after another. `find_asks` says what the call asks for at
-- each stage, and `find_takes` where the answer leads: to a next stage (`GoOn`) or to its end (`Done`).
-- `find_left` is a number that each step lowers.
use Rattle.std.specs.Prelude.{ℕ, ◌+◌, ◌-◌, ◌*◌, ◌==◌, if◌then◌else◌, nat_lt}
use Rattle.steps.specs.Queues.Ring.{load}
use Rattle.steps.specs.Indices.Robust.Parts.{cell_word, one_more}
use Rattle.steps.specs.declared.ask.Question.TheVariants as questions
use Rattle.steps.specs.declared.ask.Want.{Want}
use Rattle.steps.specs.declared.ask.Want.TheVariants as wants
use Rattle.steps.specs.declared.ask.After.{After}
use Rattle.steps.specs.declared.ask.After.TheVariants.{GoOn, Done}
use Rattle.steps.specs.declared.indices.robust.find.Find.{Find}
use Rattle.steps.specs.declared.indices.robust.find.FindStage.{FindStage}
use Rattle.steps.specs.declared.indices.robust.find.FindStage.TheVariants as finds

-- the find, moved to this stage
abbrev pub at_find : Find → FindStage → Find
at_find call stage = record call { stage = stage }

-- a find before its first step
abbrev pub first_find : ℕ → Find
first_find capacity = record { capacity = capacity; stage = finds.LoadsCell 0 0 }

-- what the find asks for, step by step: load the cells; ask about the index
abbrev pub find_asks : FindStage → Want (Unit {0})
find_asks (finds.LoadsCell index found) = load (cell_word index)
find_asks (finds.Asks index found) =
    wants.Question (questions.Index index)

-- what the find asks for next, at the stage where it stands
abbrev pub find_want : Find → Want (Unit {0})
find_want call = find_asks call.stage

-- the find goes on to the next cell, and after the last one it ends with its number
abbrev pub find_comes_to : Find → (index found : ℕ) → After Find ℕ
find_comes_to call index found =
    if nat_lt index call.capacity
    then GoOn (at_find call (finds.LoadsCell index found))
    else Done found

-- Where the find goes on to from the old value of its word:
-- each index of the owner counts, also that on which it is told to stop.
abbrev pub find_takes : Find → FindStage → (owner old : ℕ) → After Find ℕ
find_takes call (finds.LoadsCell index found) owner old =
    if old == owner
    then GoOn (at_find call (finds.Asks index (one_more found)))
    else find_comes_to call (index + 1) found
find_takes call (finds.Asks index found) owner old =
    if old == 0 then Done found else find_comes_to call (index + 1) found

-- how the find goes on from the stage at which it is, by the old value of its word
abbrev pub find_after : Find → (owner old : ℕ) → After Find ℕ
find_after call owner old = find_takes call call.stage owner old

-- a number that each step of the find lowers
abbrev pub find_left : ℕ → FindStage → ℕ
find_left capacity (finds.LoadsCell index found) = 2 * (capacity - index) + 1
find_left capacity (finds.Asks index found) = 2 * (capacity - index)
