-- What each operation of a push and of a pop does to the submission queue: the words after it, the queue
-- that they hold, and what the call finds.
use Rattle.laws_loan.proofs.Names.{◌≡◌, ℕ, ◌+◌, ◌-◌, ◌%◌, ◌^◌, ◌<◌, ◌≤◌, ◌==◌, true, false, Option, Some, List}
use Rattle.laws_loan.proofs.Names.{◌∷◌, length, get_or, refl, nat_tests, Ask, Store, Exchange, GoOn, inner_push}
use Rattle.laws_loan.proofs.Names.{after_position, distance, words_of_index, words_after, change_of, Core, Holds}
use Rattle.laws_loan.proofs.Names.{filled, taken, fills, one_filled, set_at, layout}
use Rattle.std.proofs.Common.{arith}
use Rattle.steps.specs.declared.queues.overflow.PushStage.TheVariants as overflow_pushes
use Rattle.steps.specs.Queues.Overflow.{cell_word, push_takes}
use Rattle.laws_queues.proofs.Queues.Core.{Good, published, publishes, takes, word_at}
use Rattle.laws_loan.proofs.Channel.{Channel, Holds as PartsHold, no_roles}

-- the parts of the channel `s` hold what they are to hold, so its submission queue is right, and the write position of that queue is below
-- 2 ^ 64 - 2
module _ {T : Type 0} {slots queue : ℕ} {s : Channel T} {busy : ℕ} (parts : PartsHold slots queue s busy) (reached : s.submission.write < 2 ^ 64 - 2) where
  open parts use {some, few, submission as good}

  -- the submission queue
  abbrev k : Core ℕ
  k = s.submission

  -- the words of the submission queue
  abbrev pub ws : List ℕ
  ws = layout no_roles k

  -- ---- its words

  -- the submission queue has five words and one for each index that may wait
  pub long : length ws ≡ 5 + queue
  long = let cells = good.cells in omega arith

  -- what a load of a position's cell finds
  pub cell_is : (position : ℕ) → get_or ws (cell_word queue position) 0 ≡ get_or k.cells (position % (queue + 1)) 0
  cell_is = grind (arith, word_at)

  -- the word of each cell is one of the queue's
  pub cell_on : (position : ℕ) → cell_word queue position < length ws
  cell_on = grind arith

  -- ---- the load of the write position by a push

  -- the load of the write position leads on to the load of the read position
  pub loads_write : push_takes (inner_push queue overflow_pushes.LoadsWrite) overflow_pushes.LoadsWrite k.write
      ≡ GoOn (inner_push queue (overflow_pushes.LoadsRead k.write))
  loads_write = let not_last : (k.write == 2 ^ 64 - 1) ≡ false = grind (arith, nat_tests) in rw not_last refl

  -- ---- the stores of a push

  module _ (v : ℕ) where
    -- the queue once `v` is stored into the cell of the write position
    abbrev pub fill : Core ℕ
    fill = filled 1 words_of_index (queue + 1) k 0 v

    -- the store of the index into its cell
    abbrev pub fills_cell : Option Ask
    fills_cell = Some (record { word = cell_word queue k.write; op = Store v })

    -- the words after the store are those of the queue with the index in its cell
    pub fill_words : words_after ws fills_cell ≡ layout no_roles fill
    fill_words = grind (arith, set_at)

    module _ (below : length k.waiting < queue + 1) where
      -- the queue with the index in its cell is right
      pub fill_good : Good 1 words_of_index (queue + 1) fill
      fill_good = fills good 0 v below (omega arith)

      -- once the word is stored, the cell of the write position has the index
      pub fill_whole : Holds 1 words_of_index (queue + 1) fill.cells fill.write v 1
      fill_whole = one_filled good v 0 below (omega arith) (λ i h. absurd (omega arith))

    -- the queue once `v` is published
    abbrev pub publish : Core ℕ
    publish = published 1 words_of_index (queue + 1) k v

    -- the store of the next write position
    abbrev pub next_write : Option Ask
    next_write = Some (record { word = 0; op = Store (after_position k.write) })

    -- the words after the store are those of the queue with the index published
    pub publish_words : words_after ws next_write ≡ layout no_roles publish
    publish_words = grind arith

    -- the store of the next write position changes one word
    pub publish_changes : change_of ws next_write ≡ 1
    publish_changes = grind (arith, false, nat_tests)

    -- the queue is right once a value is published, where there is a cell for it and the cell holds it
    pub publish_good : length k.waiting < queue + 1 → Holds 1 words_of_index (queue + 1) k.cells k.write v 1 → Good 1 words_of_index (queue + 1) publish
    publish_good below whole = publishes good v below whole

  -- what a push finds as it stores the next write position, where it has loaded the read position `read`:
  -- there is room; the queue is full; or it was full, and a pop has made room since
  pub data Room (read : ℕ) : Type 0 where
    HasRoom : (distance k.write read == queue) ≡ false → length k.waiting < queue → Room read
    IsFull : (distance k.write read == queue) ≡ true → (k.read == read) ≡ true → length k.waiting ≡ queue → Room read
    HasMoved : (distance k.write read == queue) ≡ true → (k.read == read) ≡ false → read < k.read → length k.waiting < queue → Room read

  -- a push that has loaded the read position finds one of these three cases
  pub finds : (read : ℕ) → read ≤ k.read → k.write ≤ read + queue → Room read
  finds = grind arith

  -- ---- the move of the read position, by a push or by a pop

  -- the exchange that moves the read position on
  abbrev pub moves_from : ℕ → Option Ask
  moves_from read = Some (record { word = 1; op = Exchange read (after_position read) })

  module _ (value : ℕ) (rest : List ℕ) (first : k.waiting ≡ value ∷ rest) where
    -- the queue once its oldest value is taken out
    abbrev pub take_out : Core ℕ
    take_out = taken 1 words_of_index (queue + 1) k rest

    -- the words after the exchange are those of the queue without its front
    pub take_words : words_after ws (moves_from k.read) ≡ layout no_roles take_out
    take_words = grind arith

    -- the exchange changes one word
    pub take_changes : change_of ws (moves_from k.read) ≡ 1
    take_changes = grind arith

    -- the queue with its front taken out is right
    pub take_good : Good 1 words_of_index (queue + 1) take_out
    take_good = takes good first

  -- where the read position has moved on already, the exchange changes nothing
  pub stays_words : (read : ℕ) → (k.read == read) ≡ false → words_after ws (moves_from read) ≡ ws
  stays_words read not_read = rw not_read refl
