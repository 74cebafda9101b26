-- The find of a container, one step after another. T is the type of the values, size the number of their
-- words, R the room for them. `find_asks` says what the call asks for at each stage, and `find_takes` where
-- the answer leads: to a next stage (`GoOn`) or to its end (`Done`). `find_kept` says what its room keeps,
-- and `find_left` is a number that each step lowers.
use Rattle.std.specs.Prelude.{ℕ, ◌+◌, ◌-◌, ◌*◌, ◌==◌, if◌then◌else◌, nat_lt}
use Rattle.steps.specs.Queues.Ring.{load}
use Rattle.steps.specs.Indices.Robust.Parts.{cell_word, one_more}
use Rattle.steps.specs.Container.Layout.{count_word, element_word, is_even, check}
use Rattle.steps.specs.declared.ask.Question.TheVariants as questions
use Rattle.steps.specs.declared.ask.Want.{Want}
use Rattle.steps.specs.declared.ask.Want.TheVariants as wants
use Rattle.steps.specs.declared.ask.After.{After}
use Rattle.steps.specs.declared.ask.After.TheVariants.{GoOn, Done}
use Rattle.steps.specs.declared.container.find.Find.{Find}
use Rattle.steps.specs.declared.container.find.FindStage.{FindStage}
use Rattle.steps.specs.declared.container.find.FindStage.TheVariants as finds

-- What the find asks for, step by step: load the cells; load the number of the element; load its words; exchange the
-- number for itself; ask about the value.
abbrev pub find_asks : (size capacity : ℕ) → FindStage → Want (Unit {0})
find_asks size capacity (finds.LoadsCell index found) = load (cell_word index)
find_asks size capacity (finds.LoadsCount index found) =
    load (count_word capacity index)
find_asks size capacity (finds.LoadsWord index found count at) =
    load (element_word capacity size index at)
find_asks size capacity (finds.ChecksCount index found count) =
    check capacity index count
find_asks size capacity (finds.Asks index found) =
    wants.Question (questions.Value index tt)

-- each word of the element goes to its place in the room
abbrev pub find_keeps : {R : Type 0} → (R → ℕ → ℕ → R) → FindStage → R → ℕ → R
find_keeps with_word (finds.LoadsCell index found) room old = room
find_keeps with_word (finds.LoadsCount index found) room old = room
find_keeps with_word (finds.LoadsWord index found count at) room old =
    with_word room at old
find_keeps with_word (finds.ChecksCount index found count) room old = room
find_keeps with_word (finds.Asks index found) room old = room

-- a number that each step of the find lowers, since a value has at most 128 words
abbrev pub find_left : (size capacity : ℕ) → FindStage → ℕ
find_left size capacity (finds.LoadsCell index found) = 140 * (capacity - index) + 139
find_left size capacity (finds.LoadsCount index found) = 140 * (capacity - index) + 138
find_left size capacity (finds.LoadsWord index found count at) =
    140 * (capacity - index) + 2 + (size - at)
find_left size capacity (finds.ChecksCount index found count) =
    140 * (capacity - index) + 1
find_left size capacity (finds.Asks index found) = 140 * (capacity - index)

module _ {T R : Type 0} where
  -- the find, moved to this stage
  abbrev pub at_find : Find T R → FindStage → Find T R
  at_find call stage = record call { stage = stage }

  -- a find before its first step
  abbrev pub first_find : ℕ → Find T R
  first_find capacity =
      record { capacity = capacity; stage = finds.LoadsCell 0 0; of = record {} }

  -- what the find asks for next, at the stage where it stands
  abbrev pub find_want : ℕ → Find T R → Want (Unit {0})
  find_want size call = find_asks size call.capacity call.stage

  -- the find goes on to the next cell, and after the last one it ends with its number
  abbrev pub find_comes_to : Find T R → (index found : ℕ) → After (Find T R) ℕ
  find_comes_to call index found =
      if nat_lt index call.capacity
      then GoOn (at_find call (finds.LoadsCell index found))
      else Done found

  -- Where the find goes on to from the old value of its word: each index of the owner counts, also one without an
  -- element, one whose element has changed meanwhile, and that on which it is told to stop.
  abbrev pub find_takes : ℕ → Find T R → FindStage → (owner old : ℕ) → After (Find T R) ℕ
  find_takes size call (finds.LoadsCell index found) owner old =
      if old == owner
      then GoOn (at_find call (finds.LoadsCount index (one_more found)))
      else find_comes_to call (index + 1) found
  find_takes size call (finds.LoadsCount index found) owner old =
      if is_even old
      then find_comes_to call (index + 1) found
      else GoOn (at_find call (finds.LoadsWord index found old 0))
  find_takes size call (finds.LoadsWord index found count at) owner old =
      if nat_lt (at + 1) size
      then GoOn (at_find call (finds.LoadsWord index found count (at + 1)))
      else GoOn (at_find call (finds.ChecksCount index found count))
  find_takes size call (finds.ChecksCount index found count) owner old =
      if old == count
      then GoOn (at_find call (finds.Asks index found))
      else find_comes_to call (index + 1) found
  find_takes size call (finds.Asks index found) owner old =
      if old == 0 then Done found else find_comes_to call (index + 1) found

  -- how the find goes on from the stage at which it is, by the old value of its word
  abbrev pub find_after : ℕ → Find T R → (owner old : ℕ) → After (Find T R) ℕ
  find_after size call owner old = find_takes size call call.stage owner old

  -- the room of the find after a step that was handed this old value
  abbrev pub find_kept : (R → ℕ → ℕ → R) → Find T R → R → ℕ → R
  find_kept with_word call room old = find_keeps with_word call.stage room old
