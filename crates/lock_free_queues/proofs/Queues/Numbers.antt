-- The words with which a queue of numbers opens, of either kind: zeros in the cells, and one
-- word more behind them.
use Rattle.lock_free_queues.proofs.Names.{◌≡◌, ℕ, ◌*◌, ◌^◌, ◌<◌, min, List, [], ◌∷◌, ◌++◌, replicate, sym, ap, ◌∙◌}
use Rattle.lock_free_queues.proofs.Names.{arith, opening, QueueKind, IndexQueue, Overflow, Queue, one_word}
use Rattle.lock_free_queues.proofs.Names.{of_indices, of_values, IsMachine}
use Rattle.history.specs.History.{Knows}
use Rattle.lock_free_queues.specs.Queues.Bounded.{machine_kind}
use Rattle.lock_free_queues.specs.Queues.Kinds.{words_in_cells, opened_by}
use Rattle.lock_free_queues.specs.Queues.Opened.{position_at}
use Rattle.lock_free_queues.proofs.Queues.Filled.{filled, zeros_stay}
use Rattle.lock_free_queues.proofs.Queues.Indices.{is_coding}
use Rattle.lock_free_queues.proofs.Queues.Opened.{queue_opens, queue_knows}
use Rattle.lock_free_queues.proofs.Queues.OverOpened.{over_opens, over_knows}

module _ (capacity : ℕ) (small : capacity < 2 ^ 32) (position : ℕ) (fits : position < 2 ^ 64) where
  -- The words with both positions, free roles and these cells.
  abbrev words_with : List ℕ → List ℕ
  words_with cells = position_at capacity position ∷ position_at capacity position ∷ 1 ∷ 1 ∷ (cells ++ 0 ∷ [])

  -- what pushes of zeros have written is zeros
  zeros : (words : List ℕ) → words ≡ words_with (replicate capacity 0) → words ≡ words_with (filled (0 ∷ []) 1 capacity (1 * min position capacity))
  zeros words same = same ∙ ap words_with (sym (zeros_stay capacity (1 * min position capacity)))

  -- a queue of numbers of any kind opens as its machine, with zeros in its cells and both positions at a position
  opens : (kd : QueueKind) (words : List ℕ) → words ≡ words_with (replicate (words_in_cells 1 kd capacity) 0)
      → IsMachine one_word (machine_kind kd) capacity (opening words [] (opened_by one_word kd capacity position))
  opens IndexQueue words same = queue_opens one_word is_coding of_indices 0 capacity small position fits words (zeros words same)
  opens Overflow words same = over_opens one_word is_coding capacity small position fits words same
  opens Queue words same =
      let one : 1 * capacity ≡ capacity = omega arith in
      queue_opens one_word is_coding of_values 0 capacity small position fits words (zeros words (same ∙ ap (λ n. words_with (replicate n 0)) one))

  -- the first pass of the queue knows the run of the pushes and pops with which the queue opens
  pub numbers_know : (kd : QueueKind) → Knows one_word (machine_kind kd) capacity (opened_by one_word kd capacity position)
  numbers_know IndexQueue = queue_knows one_word is_coding of_indices 0 capacity small position fits
  numbers_know Overflow = over_knows one_word is_coding capacity small position fits
  numbers_know Queue = queue_knows one_word is_coding of_values 0 capacity small position fits

  -- Words with both positions at `start`, free roles and cells of zeros are the machine of a queue of
  -- numbers that opens at this position.
  pub numbers_open : (kd : QueueKind) (cells start : ℕ) (words : List ℕ) → words_in_cells 1 kd capacity ≡ cells
      → start ≡ position_at capacity position → words ≡ start ∷ start ∷ 1 ∷ 1 ∷ (replicate cells 0 ++ 0 ∷ [])
      → IsMachine one_word (machine_kind kd) capacity (opening words [] (opened_by one_word kd capacity position))
  numbers_open kd cells start words words_in_cells_is start_is words_are = grind (arith, opens)
