-- What was published, what was handed out, and what waits.
use Rattle.std.specs.Prelude.{◌≡◌, ℕ, zero, suc, ◌+◌, ◌-◌, ◌≤◌, false, List, [], ◌∷◌, ◌++◌, length, take, drop, slice_index}
use Rattle.steps.specs.Queues.Ring.{cell_word}
use Rattle.model.specs.declared.event.Item.{Item}
use Rattle.model.specs.declared.event.Item.TheVariants.{Index, Value}
use Rattle.model.specs.declared.event.Start.TheVariants.{Queues}
use Rattle.model.specs.declared.event.Answer.TheVariants.{Truth, PoppedNone}
use Rattle.model.specs.declared.event.Event.{Event}
use Rattle.model.specs.declared.event.Event.TheVariants.{Acted}
use Rattle.model.specs.declared.families.queues.QueueStart.TheVariants.{PushIndex, Push, Pop}
use Rattle.model.specs.declared.families.queues.QueueKind.{QueueKind}
use Rattle.model.specs.declared.families.queues.QueueKind.TheVariants.{IndexQueue, Overflow, Queue}
use Rattle.model.specs.Coding.{Coding}
use Rattle.model.specs.Families.Queues.Calls.{write_word, read_word}
use Rattle.model.specs.Families.Queues.Opening.{cells_of, words_of_cell}
use Rattle.model.specs.Families.Queues.Reading.{published, handed_out, waiting}
use Rattle.model.specs.World.{Trace}

module _ {T : Type 0} (code : Coding T) where
  -- the value in a cell, which begins at this word
  abbrev pub item_at : QueueKind → List ℕ → ℕ → Item T
  item_at IndexQueue words cell = Index (slice_index words cell)
  item_at Overflow words cell = Index (slice_index words cell)
  item_at Queue words cell =
      Value (code.value_of (take code.size (drop cell words)))

  -- the first word of a position's cell, in a queue of this capacity
  abbrev pub cell_of : QueueKind → (capacity position : ℕ) → ℕ
  cell_of kind capacity position =
      cell_word (cells_of kind capacity) (words_of_cell code.size kind) position

  -- The values in the next `count` cells, from this position on.
  abbrev pub stored : QueueKind → ℕ → List ℕ → ℕ → ℕ → List (Item T)
  stored kind capacity words position zero = []
  stored kind capacity words position (suc count) =
      item_at kind words (cell_of kind capacity position)
      ∷ stored kind capacity words (position + 1) count

  -- the values that wait: those in the cells between the read position and the write position
  abbrev pub waiting_in : QueueKind → ℕ → List ℕ → List (Item T)
  waiting_in kind capacity words =
      stored kind capacity words (slice_index words read_word)
      (slice_index words write_word - slice_index words read_word)

  -- The read and the write position count what was handed out and what was published. What was handed out
  -- is a beginning of what was published, and the rest waits in the cells, at most one value a cell.
  pub record IsBook (kind : QueueKind) (t : Trace T) : Type 0 where
    -- the read position counts what was handed out
    pub read : slice_index t.world.words read_word ≡ length (handed_out t.events)
    -- the write position counts what was published
    pub write : slice_index t.world.words write_word ≡ length (published t.events)
    pub rest : published t.events
        ≡ handed_out t.events ++ waiting_in kind t.world.capacity t.world.words
    -- no more waits than there are cells
    pub few : length (waiting_in kind t.world.capacity t.world.words)
        ≤ cells_of kind t.world.capacity

module _ {T : Type 0} where
  -- a push answers false only where capacity values wait, and a pop None only where nothing waits
  abbrev pub AnswersRight : ℕ → List (Event T) → Event T → Type 0
  AnswersRight capacity before (Acted p (Queues (PushIndex index)) (Truth false)) =
      length (waiting before) ≡ capacity
  AnswersRight capacity before (Acted p (Queues (Push value)) (Truth false)) =
      length (waiting before) ≡ capacity
  AnswersRight capacity before (Acted p (Queues Pop) PoppedNone) = waiting before ≡ []
  AnswersRight capacity before e = Unit {0}
