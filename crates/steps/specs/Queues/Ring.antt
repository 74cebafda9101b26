-- The calls of the bounded queue, one step after another. V is the type of the values, size the number of
-- their words, R the room for them. `.._asks` says what a call asks for at each stage, and `.._takes` where
-- the answer leads: to a next stage (`GoOn`) or to its end (`Done`). `.._kept` says what its room keeps, and
-- `.._left` is a number that each step lowers.
use Rattle.std.specs.Prelude.{ℕ, ◌+◌, ◌-◌, ◌*◌, ◌%◌, ◌^◌, ◌==◌, ◌||◌, Bool, true, false, Option, Some, None, List, if◌then◌else◌, nat_lt, slice_index}
use Rattle.steps.specs.declared.ask.Op.TheVariants.{Load, Store}
use Rattle.steps.specs.declared.ask.Want.{Want}
use Rattle.steps.specs.declared.ask.Want.TheVariants as wants
use Rattle.steps.specs.declared.ask.After.{After}
use Rattle.steps.specs.declared.ask.After.TheVariants.{GoOn, Done}
use Rattle.steps.specs.declared.queues.ring.Push.{Push}
use Rattle.steps.specs.declared.queues.ring.PushStage.{PushStage}
use Rattle.steps.specs.declared.queues.ring.PushStage.TheVariants as pushes
use Rattle.steps.specs.declared.queues.ring.Pop.{Pop}
use Rattle.steps.specs.declared.queues.ring.PopStage.{PopStage}
use Rattle.steps.specs.declared.queues.ring.PopStage.TheVariants as pops

-- the next position; positions wrap at 2^64
abbrev pub after_position : ℕ → ℕ
after_position position = (position + 1) % 2 ^ 64

-- by how many positions the read position is behind the write position, both of which wrap at 2^64
abbrev pub distance : (write read : ℕ) → ℕ
distance write read = (write + 2 ^ 64 - read) % 2 ^ 64

-- the first word of the position's cell
abbrev pub cell_word : (capacity size position : ℕ) → ℕ
cell_word capacity size position = if capacity == 0 then 4 else 4 + size * (position % capacity)

-- the word of a cell at this place, by its first word
abbrev pub word_at : (cell at : ℕ) → ℕ
word_at cell at = (cell + at) % 2 ^ 64

-- a load of a word
abbrev pub load : ℕ → Want (Unit {0})
load word = wants.Ask (record { word = word; op = Load })

-- a store of a word
abbrev pub store : (word new : ℕ) → Want (Unit {0})
store word new = wants.Ask (record { word = word; op = Store new })

module _ {V : Type 0} where
  -- the push, moved to this stage
  abbrev pub at_push : Push V → PushStage → Push V
  at_push call stage = record call { stage = stage }

  -- a push before its first step
  abbrev pub first_push : ℕ → Push V
  first_push capacity =
      record { capacity = capacity; stage = pushes.LoadsWrite; of = record {} }

  -- what the push asks for, step by step: load write; load read; store the cell, word by word; store write + 1
  abbrev pub push_asks : (V → List ℕ) → PushStage → V → Want (Unit {0})
  push_asks words_of pushes.LoadsWrite value = load 0
  push_asks words_of (pushes.LoadsRead write) value = load 1
  push_asks words_of (pushes.StoresCell write cell at) value =
      store (word_at cell at) (slice_index (words_of value) at)
  push_asks words_of (pushes.StoresWrite write) value = store 0 (after_position write)

  -- what the push asks for next, at the stage where it stands
  abbrev pub push_want : (V → List ℕ) → Push V → V → Want (Unit {0})
  push_want words_of call value = push_asks words_of call.stage value

  -- Where the push goes on to from the old value of its word: it ends with false at the last position or where the
  -- queue is full, and with true once it has stored the words of its cell and then the next write position.
  abbrev pub push_takes : ℕ → Push V → PushStage → ℕ → After (Push V) Bool
  push_takes size call pushes.LoadsWrite old =
      if old == 2 ^ 64 - 1
      then Done false
      else GoOn (at_push call (pushes.LoadsRead old))
  push_takes size call (pushes.LoadsRead write) old =
      if call.capacity == 0 || distance write old == call.capacity
      then Done false
      else GoOn
      (at_push call (pushes.StoresCell write (cell_word call.capacity size write) 0))
  push_takes size call (pushes.StoresCell write cell at) old =
      if nat_lt (at + 1) size
      then GoOn (at_push call (pushes.StoresCell write cell (at + 1)))
      else GoOn (at_push call (pushes.StoresWrite write))
  push_takes size call (pushes.StoresWrite write) old = Done true

  -- how the push goes on from the stage at which it is, by the old value of its word
  abbrev pub push_after : ℕ → Push V → ℕ → After (Push V) Bool
  push_after size call old = push_takes size call call.stage old

-- a number that each step of the push lowers
abbrev pub push_left : ℕ → PushStage → ℕ
push_left size pushes.LoadsWrite = size + 3
push_left size (pushes.LoadsRead write) = size + 2
push_left size (pushes.StoresCell write cell at) = size - at + 1
push_left size (pushes.StoresWrite write) = 0

-- what the pop asks for, step by step: load read; load write; load the cell, word by word; store read + 1
abbrev pub pop_asks : PopStage → Want (Unit {0})
pop_asks pops.LoadsRead = load 1
pop_asks (pops.LoadsWrite read) = load 0
pop_asks (pops.LoadsCell read cell at) = load (word_at cell at)
pop_asks (pops.StoresRead read) = store 1 (after_position read)

module _ {R : Type 0} where
  -- the room of the pop after a step: each word of the cell goes to its place in the room
  abbrev pub pop_keeps : (R → ℕ → ℕ → R) → R → PopStage → ℕ → R
  pop_keeps with_word room pops.LoadsRead old = room
  pop_keeps with_word room (pops.LoadsWrite read) old = room
  pop_keeps with_word room (pops.LoadsCell read cell at) old = with_word room at old
  pop_keeps with_word room (pops.StoresRead read) old = room

module _ {V R : Type 0} where
  -- the pop, moved to this stage
  abbrev pub at_pop : Pop V R → PopStage → Pop V R
  at_pop call stage = record call { stage = stage }

  -- a pop before its first step
  abbrev pub first_pop : ℕ → Pop V R
  first_pop capacity =
      record { capacity = capacity; stage = pops.LoadsRead; of = record {} }

  -- what the pop asks for next, at the stage where it stands
  abbrev pub pop_want : Pop V R → Want (Unit {0})
  pop_want call = pop_asks call.stage

  -- Where the pop goes on to from the old value of its word: it ends with false where the queue is empty, and with true
  -- once it has loaded the words of the oldest cell and stored the next read position.
  abbrev pub pop_takes : ℕ → Pop V R → PopStage → ℕ → After (Pop V R) Bool
  pop_takes size call pops.LoadsRead old =
      GoOn (at_pop call (pops.LoadsWrite old))
  pop_takes size call (pops.LoadsWrite read) old =
      if call.capacity == 0 || old == read
      then Done false
      else GoOn
      (at_pop call (pops.LoadsCell read (cell_word call.capacity size read) 0))
  pop_takes size call (pops.LoadsCell read cell at) old =
      if nat_lt (at + 1) size
      then GoOn (at_pop call (pops.LoadsCell read cell (at + 1)))
      else GoOn (at_pop call (pops.StoresRead read))
  pop_takes size call (pops.StoresRead read) old = Done true

  -- how the pop goes on from the stage at which it is, by the old value of its word
  abbrev pub pop_after : ℕ → Pop V R → ℕ → After (Pop V R) Bool
  pop_after size call old = pop_takes size call call.stage old

  -- the room of the pop after a step that was handed this old value
  abbrev pub pop_kept : (R → ℕ → ℕ → R) → Pop V R → R → ℕ → R
  pop_kept with_word call room old = pop_keeps with_word room call.stage old

-- a number that each step of the pop lowers
abbrev pub pop_left : ℕ → PopStage → ℕ
pop_left size pops.LoadsRead = size + 3
pop_left size (pops.LoadsWrite read) = size + 2
pop_left size (pops.LoadsCell read cell at) = size - at + 1
pop_left size (pops.StoresRead read) = 0

-- what the pop answers: the value that it has read, if there was one
abbrev pub pop_answer : {V : Type 0} → V → Bool → Option V
pop_answer value true = Some value
pop_answer value false = None
