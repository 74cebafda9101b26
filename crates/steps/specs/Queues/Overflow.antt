-- The calls of the overflowing queue, one step after another. `.._asks` says what a call asks for at each
-- stage, and `.._takes` where the answer leads: to a next stage (`GoOn`) or to its end (`Done`). `.._kept`
-- says what its room keeps, and `.._left` is a number that each step lowers.
use Rattle.std.specs.Prelude.{ℕ, ◌+◌, ◌-◌, ◌%◌, ◌^◌, ◌==◌, Bool, true, false, not, Option, Some, None, if◌then◌else◌}
use Rattle.steps.specs.Queues.Ring.{after_position, distance, load, store}
use Rattle.steps.specs.declared.ask.Op.TheVariants.{Exchange}
use Rattle.steps.specs.declared.ask.Want.{Want}
use Rattle.steps.specs.declared.ask.Want.TheVariants as wants
use Rattle.steps.specs.declared.ask.After.{After}
use Rattle.steps.specs.declared.ask.After.TheVariants.{GoOn, Done}
use Rattle.steps.specs.declared.copied.OneWord.{OneWord}
use Rattle.steps.specs.declared.queues.overflow.Push.{Push}
use Rattle.steps.specs.declared.queues.overflow.PushStage.{PushStage}
use Rattle.steps.specs.declared.queues.overflow.PushStage.TheVariants as pushes
use Rattle.steps.specs.declared.queues.overflow.PushEnd.{PushEnd}
use Rattle.steps.specs.declared.queues.overflow.PushEnd.TheVariants.{Added, Own, Oldest}
use Rattle.steps.specs.declared.queues.overflow.Pop.{Pop}
use Rattle.steps.specs.declared.queues.overflow.PopStage.{PopStage}
use Rattle.steps.specs.declared.queues.overflow.PopStage.TheVariants as pops

-- the word of the position's cell: there is one cell more than the capacity
abbrev pub cell_word : (capacity position : ℕ) → ℕ
cell_word capacity position = 4 + position % (capacity + 1)

-- an exchange that moves the word on from this position
abbrev pub move : (word position : ℕ) → Want (Unit {0})
move word position =
    wants.Ask (record { word = word; op = Exchange position (after_position position) })

-- ---- push

-- a push before its first step: without capacity the value is handed back, and no word is asked for
abbrev pub first_push : ℕ → Push
first_push capacity =
    record {
      capacity = capacity;
      stage = if capacity == 0 then pushes.HandsBack else pushes.LoadsWrite;
    }

-- the push, moved to this stage
abbrev pub at_push : Push → PushStage → Push
at_push call stage = record call { stage = stage }

-- What the push asks for, step by step: load write; load read; store the cell; store write + 1; move read on; load the
-- cell of the old read.
abbrev pub push_asks : ℕ → PushStage → ℕ → Want (Unit {0})
push_asks capacity pushes.HandsBack value = wants.Nothing
push_asks capacity pushes.LoadsWrite value = load 0
push_asks capacity (pushes.LoadsRead write) value = load 1
push_asks capacity (pushes.StoresCell write read) value =
    store (cell_word capacity write) value
push_asks capacity (pushes.StoresWrite write read) value =
    store 0 (after_position write)
push_asks capacity (pushes.MovesRead read) value = move 1 read
push_asks capacity (pushes.LoadsCell read) value = load (cell_word capacity read)

-- what the push asks for next, at the stage where it stands
abbrev pub push_want : Push → ℕ → Want (Unit {0})
push_want call value = push_asks call.capacity call.stage value

-- Where the push goes on to from the old value of its word. The queue was full where the read
-- position that it has loaded is `capacity` behind its write position; where a pop has moved the read
-- position since, there is room.
abbrev pub push_takes : Push → PushStage → ℕ → After Push PushEnd
push_takes call pushes.HandsBack old = Done Own
push_takes call pushes.LoadsWrite old =
    if old == 2 ^ 64 - 1 then Done Own else GoOn (at_push call (pushes.LoadsRead old))
push_takes call (pushes.LoadsRead write) old =
    GoOn (at_push call (pushes.StoresCell write old))
push_takes call (pushes.StoresCell write read) old =
    GoOn (at_push call (pushes.StoresWrite write read))
push_takes call (pushes.StoresWrite write read) old =
    if distance write read == call.capacity
    then GoOn (at_push call (pushes.MovesRead read))
    else Done Added
push_takes call (pushes.MovesRead read) old =
    if old == read then GoOn (at_push call (pushes.LoadsCell read)) else Done Added
push_takes call (pushes.LoadsCell read) old = Done Oldest

-- how the push goes on from the stage at which it is, by the old value of its word
abbrev pub push_after : Push → ℕ → After Push PushEnd
push_after call old = push_takes call call.stage old

-- the room of the push after a step: it keeps the oldest value, once that is loaded
abbrev pub push_keeps : OneWord → PushStage → ℕ → OneWord
push_keeps room pushes.HandsBack old = room
push_keeps room pushes.LoadsWrite old = room
push_keeps room (pushes.LoadsRead write) old = room
push_keeps room (pushes.StoresCell write read) old = room
push_keeps room (pushes.StoresWrite write read) old = room
push_keeps room (pushes.MovesRead read) old = room
push_keeps room (pushes.LoadsCell read) old = record { 0 = old }

-- the room of the push after a step that was handed this old value
abbrev pub push_kept : Push → OneWord → ℕ → OneWord
push_kept call room old = push_keeps room call.stage old

-- what a push hands back: nothing, the value that it was given, or the oldest, which it has read
abbrev pub push_answer : (given oldest : ℕ) → PushEnd → Option ℕ
push_answer given oldest Added = None
push_answer given oldest Own = Some given
push_answer given oldest Oldest = Some oldest

-- a number that each step of the push lowers
abbrev pub push_left : PushStage → ℕ
push_left pushes.HandsBack = 0
push_left pushes.LoadsWrite = 5
push_left (pushes.LoadsRead write) = 4
push_left (pushes.StoresCell write read) = 3
push_left (pushes.StoresWrite write read) = 2
push_left (pushes.MovesRead read) = 1
push_left (pushes.LoadsCell read) = 0

-- ---- pop

-- a pop of a queue of this capacity before its first step: a queue of capacity 0 has nothing to load
abbrev pub first_pop : ℕ → Pop
first_pop capacity =
    record {
      capacity = capacity;
      stage = if capacity == 0 then pops.FindsNone else pops.LoadsRead;
    }

-- the pop, moved to this stage
abbrev pub at_pop : Pop → PopStage → Pop
at_pop call stage = record call { stage = stage }

-- what the pop asks for, step by step: load read; load write; load the cell; move read on
abbrev pub pop_asks : ℕ → PopStage → Want (Unit {0})
pop_asks capacity pops.FindsNone = wants.Nothing
pop_asks capacity pops.LoadsRead = load 1
pop_asks capacity (pops.LoadsWrite read) = load 0
pop_asks capacity (pops.LoadsCell read) = load (cell_word capacity read)
pop_asks capacity (pops.MovesRead read) = move 1 read

-- what the pop asks for next, at the stage where it stands
abbrev pub pop_want : Pop → Want (Unit {0})
pop_want call = pop_asks call.capacity call.stage

-- Where the pop goes on to from the old value of its word: where the read position has moved, the cell is loaded again,
-- at the position found.
abbrev pub pop_takes : Pop → PopStage → ℕ → After Pop Bool
pop_takes call pops.FindsNone old = Done false
pop_takes call pops.LoadsRead old = GoOn (at_pop call (pops.LoadsWrite old))
pop_takes call (pops.LoadsWrite read) old =
    if old == read then Done false else GoOn (at_pop call (pops.LoadsCell read))
pop_takes call (pops.LoadsCell read) old =
    GoOn (at_pop call (pops.MovesRead read))
pop_takes call (pops.MovesRead read) old =
    if old == read then Done true else GoOn (at_pop call (pops.LoadsCell old))

-- how the pop goes on from the stage at which it is, by the old value of its word
abbrev pub pop_after : Pop → ℕ → After Pop Bool
pop_after call old = pop_takes call call.stage old

-- the room of the pop after a step: it keeps the value of the cell, once that is loaded
abbrev pub pop_keeps : OneWord → PopStage → ℕ → OneWord
pop_keeps room pops.FindsNone old = room
pop_keeps room pops.LoadsRead old = room
pop_keeps room (pops.LoadsWrite read) old = room
pop_keeps room (pops.LoadsCell read) old = record { 0 = old }
pop_keeps room (pops.MovesRead read) old = room

-- the room of the pop after a step that was handed this old value
abbrev pub pop_kept : Pop → OneWord → ℕ → OneWord
pop_kept call room old = pop_keeps room call.stage old

-- what the pop answers: the value that it has read, if there was one
abbrev pub pop_answer : ℕ → Bool → Option ℕ
pop_answer value true = Some value
pop_answer value false = None

-- Whether the pop begins its loop again once it is handed this old value:
-- the read position has moved since it was loaded.
abbrev pub goes_back : PopStage → ℕ → Bool
goes_back pops.FindsNone old = false
goes_back pops.LoadsRead old = false
goes_back (pops.LoadsWrite read) old = false
goes_back (pops.LoadsCell read) old = false
goes_back (pops.MovesRead read) old = not (old == read)
