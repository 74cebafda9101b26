-- What each operation of a push and of a pop does to the completion queue, in which a value has one word
-- and there is room for every slot.
use Rattle.laws_loan.proofs.Names.{◌≡◌, ℕ, ◌+◌, ◌-◌, ◌*◌, ◌%◌, ◌^◌, ◌<◌, ◌≤◌, ◌==◌, true, false, Option, Some, List}
use Rattle.laws_loan.proofs.Names.{[], ◌∷◌, length, get_or, refl, ap, ◌∙◌, nat_tests, nil_from_length, Ask, Store}
use Rattle.laws_loan.proofs.Names.{GoOn, Push, after_position, words_of_index, words_after, change_of, Core}
use Rattle.laws_loan.proofs.Names.{Holds, filled, taken, fills, one_filled, front, set_at, layout}
use Rattle.std.proofs.Common.{arith}
use Rattle.steps.specs.declared.queues.ring.PushStage.{PushStage}
use Rattle.steps.specs.declared.queues.ring.PushStage.TheVariants as pushes
use Rattle.steps.specs.Queues.Ring.{cell_word, push_takes, word_at}
use Rattle.laws_queues.proofs.Queues.Core.{Good, published, publishes, takes}
use Rattle.laws_loan.proofs.Channel.{Channel, Holds as PartsHold, no_roles}

-- a queue that has something has a first one
pub first_of : (xs : List ℕ) → 0 < length xs → (v : ℕ) × (rest : List ℕ) × (xs ≡ v ∷ rest)
first_of [] some = absurd (omega arith)
first_of (x ∷ xs) some = (x, xs, refl)

-- the parts of the channel `s` hold what they are to hold, so its completion queue is right and has room for every slot; the write position
-- of that queue is below 2 ^ 64 - 2
module _ {T : Type 0} {slots queue : ℕ} {s : Channel T} {busy : ℕ} (parts : PartsHold slots queue s busy) (reached : s.completion.write < 2 ^ 64 - 2) where
  open parts use {completion as good}

  -- the completion queue
  abbrev k : Core ℕ
  k = s.completion

  -- the channel has at least one index
  some : 1 ≤ slots
  some = parts.set.some

  -- the channel has fewer than 2 ^ 24 indices
  few : slots < 2 ^ 24
  few = let low = parts.set.few in omega arith

  -- the words of the completion queue
  abbrev pub ws : List ℕ
  ws = layout no_roles k

  -- ---- its words

  -- the completion queue has four words and one for each index
  pub long : length ws ≡ 4 + slots
  long = let cells = good.cells in omega arith

  -- the place of a position's cell, as a call asks for it
  cell_place : (position : ℕ) → word_at (cell_word slots 1 position) 0 ≡ 4 + (1 * (position % slots) + 0)
  cell_place = grind arith

  -- the word of each cell is one of the queue's
  pub cell_on : (position : ℕ) → word_at (cell_word slots 1 position) 0 < length ws
  cell_on = grind arith

  -- what a load of a position's cell finds
  pub cell_is : (position : ℕ) → get_or ws (word_at (cell_word slots 1 position) 0) 0 ≡ get_or k.cells (1 * (position % slots) + 0) 0
  cell_is = grind (arith, word_at, cell_place)

  -- the first value stands in the cell of the read position
  pub first_is : (value : ℕ) (rest : List ℕ) → k.waiting ≡ value ∷ rest → get_or ws (word_at (cell_word slots 1 k.read) 0) 0 ≡ value
  first_is value rest first = cell_is k.read ∙ front good first 0 (omega arith)

  -- ---- a push

  -- the push of an index at a stage
  abbrev pub push_at : PushStage → Push ℕ
  push_at stage = record { capacity = slots; stage = stage; of = record {} }

  -- the load of the write position leads on to the load of the read position
  pub loads_write : push_takes 1 (push_at pushes.LoadsWrite) pushes.LoadsWrite k.write
      ≡ GoOn (push_at (pushes.LoadsRead k.write))
  loads_write = let t : (k.write == 2 ^ 64 - 1) ≡ false = grind (arith, nat_tests) in rw t refl

  -- the load of the read position finds room, and leads on to the cell
  pub loads_read : length k.waiting < slots
      → push_takes 1 (push_at (pushes.LoadsRead k.write)) (pushes.LoadsRead k.write) k.read
      ≡ GoOn (push_at (pushes.StoresCell k.write (cell_word slots 1 k.write) 0))
  loads_read = grind arith

  module _ (v : ℕ) (room : length k.waiting < slots) where
    -- the queue once the index `v` is stored into the cell of the write position
    abbrev pub fill : Core ℕ
    fill = filled 1 words_of_index slots k 0 v

    -- the store of the index into its cell
    abbrev pub fills_cell : Option Ask
    fills_cell = Some (record { word = word_at (cell_word slots 1 k.write) 0; op = Store v })

    -- the words after the store are those of the queue with the index in its cell
    pub fill_words : words_after ws fills_cell ≡ layout no_roles fill
    fill_words = grind (arith, set_at, word_at, cell_place)

    -- the queue with the index in its cell is right
    pub fill_good : Good 1 words_of_index slots fill
    fill_good = fills good 0 v room (omega arith)

    -- once the word is stored, the cell of the write position has the index
    pub fill_whole : Holds 1 words_of_index slots fill.cells fill.write v 1
    fill_whole = one_filled good v 0 room (omega arith) (λ i h. absurd (omega arith))

    -- the queue once `v` is published
    abbrev pub publish : Core ℕ
    publish = published 1 words_of_index slots k v

    -- the store of the next write position
    abbrev pub next_write : Option Ask
    next_write = Some (record { word = 0; op = Store (after_position k.write) })

    -- the words after the store are those of the queue with the index published
    pub publish_words : words_after ws next_write ≡ layout no_roles publish
    publish_words = grind arith

    -- the store of the next write position changes one word
    pub publish_changes : change_of ws next_write ≡ 1
    publish_changes = grind (arith, false, nat_tests)

    -- where the cell of the write position has the index, the queue with it published is right
    pub publish_good : Holds 1 words_of_index slots k.cells k.write v 1 → Good 1 words_of_index slots publish
    publish_good whole = publishes good v room whole

  -- ---- a pop

  -- where the positions are the same, nothing waits
  pub finds_none : (k.write == k.read) ≡ true → k.waiting ≡ []
  finds_none = grind (arith, nil_from_length, nat_tests)

  -- where they differ, something waits
  pub finds_some : (k.write == k.read) ≡ false → k.read < k.write
  finds_some = grind arith

  -- the store of the next read position
  abbrev pub next_read : Option Ask
  next_read = Some (record { word = 1; op = Store (after_position k.read) })

  module _ (value : ℕ) (rest : List ℕ) (first : k.waiting ≡ value ∷ rest) where
    -- the queue once its first index is taken
    abbrev pub take_out : Core ℕ
    take_out = taken 1 words_of_index slots k rest

    -- the read position after the step is one more, without a wrap
    not_last : after_position k.read ≡ k.read + 1
    not_last = let write = good.write in omega arith

    -- the words after the store are those of the queue without its front
    pub take_words : words_after ws next_read ≡ layout no_roles take_out
    take_words = ap (λ n. k.write ∷ n ∷ 1 ∷ 1 ∷ k.cells) not_last

    -- the store of the next read position changes one word
    pub take_changes : change_of ws next_read ≡ 1
    take_changes = grind arith

    -- the queue without its front is right
    pub take_good : Good 1 words_of_index slots take_out
    take_good = takes good first
