-- What is known of the words that a `close` reads while other threads may still step.
use Rattle.std.specs.Prelude.{◌≡◌, ℕ, ◌+◌, ◌^◌, ◌<◌, ◌≤◌, List, length, slice_index}
use Rattle.model.specs.declared.turn.Kind.{Kind}
use Rattle.model.specs.Coding.{Coding}
use Rattle.model.specs.World.{Trace}
use Rattle.threaded.specs.Shares.{IsAll}
use Rattle.history.specs.declared.view.View.{View}
use Rattle.history.specs.History.{IsBeginning, IsRun}
use Rattle.history.specs.Passes.{MissesNothing}
use Rattle.steps.specs.declared.words.Words.{Ghosts}
use Rattle.lock_free_queues.specs.declared.spsc.ring.rule.Kind as kinds
use Rattle.lock_free_queues.specs.declared.spsc.ring.rule.RingRule.{RingRule}
use Rattle.lock_free_queues.specs.declared.spsc.ring.Held.{Held}
use Rattle.lock_free_queues.specs.Queues.Bounded.{machine_kind}
use Rattle.lock_free_queues.specs.Queues.Kinds.{words_in_cells}
use Rattle.lock_free_queues.specs.Queues.Rings.{code_of, token_queue, token_view}

module _ {T : Type 0} (code : Coding T) (kind : Kind) where
  -- The word was read of a machine whose history lies between what the pass had seen in `old` and in `new`.
  pub record WasRead (capacity : ℕ) (old new : View T) (word found : ℕ) : Type 0 where
    -- the machine that the word was read of
    pub trace : Trace T
    pub run : IsRun code kind capacity trace
    pub since : IsBeginning old.seen trace.events
    pub until : IsBeginning trace.events new.seen
    -- the word had this value there
    pub found_is : found ≡ slice_index trace.world.words word

  -- each word of the cells was read with the value that it has in `words`
  abbrev pub CellsRead : ℕ → (old new : View T) → List ℕ → Type 0
  CellsRead capacity old new words =
      (word : ℕ) → 4 ≤ word → word < length words
      → WasRead capacity old new word (slice_index words word)

-- what a pass knows once it has read some words: it keeps its share, has made nothing, and has seen
-- more of the history
pub record HasRead {T : Type 0} (old new : View T) : Type 0 where
  pub share : new.share ≡ old.share
  pub since : IsBeginning old.seen new.seen
  -- the pass has made nothing
  pub made : new.made ≡ old.made
  -- with the whole share there was nothing more to see
  pub whole : IsAll old.share → new.seen ≡ old.seen
  -- with the whole share it misses nothing
  pub all : MissesNothing new

-- The words of a queue, `wide` of them of cells, as they stood at the moment when the read position was
-- read (`new`): from the first load of the write position to the last nothing was published.
pub record LastWords {T : Type 0} (code : Coding T) (kind : Kind) (wide capacity : ℕ) (old : View T)
    (words : List ℕ) : Type 0 where
  -- what was known as the write position was first read
  pub begun : View T
  -- what was known as the read position was read
  pub new : View T
  -- what was known as the write position was last read
  pub ended : View T
  pub opening : HasRead old begun
  pub reading : HasRead begun new
  pub ending : HasRead new ended
  -- the capacity, the number of words and the write position are in range
  pub small : capacity < 2 ^ 32
  pub long : length words ≡ 4 + wide
  pub fits : slice_index words 0 < 2 ^ 64
  -- the write position, as it was first read
  pub first_read : WasRead code kind capacity begun begun 0 (slice_index words 0)
  -- the words of the cells
  pub cells : CellsRead code kind capacity begun new words
  -- the read position
  pub taken_read : WasRead code kind capacity new new 1 (slice_index words 1)
  -- the write position had the same value as it was last read
  pub last_read : WasRead code kind capacity ended ended 0 (slice_index words 0)

-- A seat has read these words. Some seat of the queue (`then`) knows just what this one knew as it read
-- the read position.
pub record LastSeen {E T : Type 0} {kind : kinds.Ghosts E} {words : Ghosts T} (capacity : ℕ)
    (old : Held E T (RingRule E T) kind words) (read : List ℕ) : Type 0 where
  pub last : LastWords (code_of old) (machine_kind kind.KIND) (words_in_cells words.WORDS kind.KIND capacity) capacity
      (token_view old) read
  pub then : Held E T (RingRule E T) kind words
  pub queue : token_queue then ≡ token_queue old
  pub view : token_view then ≡ last.new
