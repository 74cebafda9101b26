-- The look at the oldest value of a bounded queue, one step after another. V is the type of the values, size
-- the number of their words, R the room for them. `peek_asks` says what the call asks for at each stage, and
-- `peek_takes` where the answer leads: to a next stage (`GoOn`) or to its end (`Done`). `peek_kept` says what
-- its room keeps, and `peek_left` is a number that each step lowers.
use Rattle.std.specs.Prelude.{ℕ, ◌+◌, ◌-◌, ◌==◌, ◌||◌, Bool, true, false, if◌then◌else◌, nat_lt}
use Rattle.steps.specs.Queues.Ring.{load, cell_word, word_at}
use Rattle.steps.specs.declared.ask.Want.{Want}
use Rattle.steps.specs.declared.ask.After.{After}
use Rattle.steps.specs.declared.ask.After.TheVariants.{GoOn, Done}
use Rattle.steps.specs.declared.queues.peek.Peek.{Peek}
use Rattle.steps.specs.declared.queues.peek.PeekStage.{PeekStage}
use Rattle.steps.specs.declared.queues.peek.PeekStage.TheVariants.{LoadsRead, LoadsWrite, LoadsCell}

-- what the peek asks for, step by step: load read; load write; load the cell, word by word
abbrev pub peek_asks : PeekStage → Want (Unit {0})
peek_asks LoadsRead = load 1
peek_asks (LoadsWrite read) = load 0
peek_asks (LoadsCell cell at) = load (word_at cell at)

module _ {R : Type 0} where
  -- the room of the peek after a step: each word of the cell goes to its place in the room
  abbrev pub peek_keeps : (R → ℕ → ℕ → R) → R → PeekStage → ℕ → R
  peek_keeps with_word room LoadsRead old = room
  peek_keeps with_word room (LoadsWrite read) old = room
  peek_keeps with_word room (LoadsCell cell at) old = with_word room at old

module _ {V R : Type 0} where
  -- the peek, moved to this stage
  abbrev pub at_peek : Peek V R → PeekStage → Peek V R
  at_peek call stage = record call { stage = stage }

  -- a peek before its first step
  abbrev pub first_peek : ℕ → Peek V R
  first_peek capacity =
      record { capacity = capacity; stage = LoadsRead; of = record {} }

  -- what the peek asks for next, at the stage where it stands
  abbrev pub peek_want : Peek V R → Want (Unit {0})
  peek_want call = peek_asks call.stage

  -- Where the peek goes on to from the old value of its word: it ends with false where the queue is empty, and with
  -- true once all words of the oldest cell are loaded.
  abbrev pub peek_takes : ℕ → Peek V R → PeekStage → ℕ → After (Peek V R) Bool
  peek_takes size call LoadsRead old =
      GoOn (at_peek call (LoadsWrite old))
  peek_takes size call (LoadsWrite read) old =
      if call.capacity == 0 || old == read
      then Done false
      else GoOn (at_peek call (LoadsCell (cell_word call.capacity size read) 0))
  peek_takes size call (LoadsCell cell at) old =
      if nat_lt (at + 1) size
      then GoOn (at_peek call (LoadsCell cell (at + 1)))
      else Done true

  -- how the peek goes on from the stage at which it is, by the old value of its word
  abbrev pub peek_after : ℕ → Peek V R → ℕ → After (Peek V R) Bool
  peek_after size call old = peek_takes size call call.stage old

  -- the room of the peek after a step that was handed this old value
  abbrev pub peek_kept : (R → ℕ → ℕ → R) → Peek V R → R → ℕ → R
  peek_kept with_word call room old = peek_keeps with_word room call.stage old

-- a number that each step of the peek lowers
abbrev pub peek_left : ℕ → PeekStage → ℕ
peek_left size LoadsRead = size + 2
peek_left size (LoadsWrite read) = size + 1
peek_left size (LoadsCell cell at) = size - at
