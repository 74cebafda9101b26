-- The words of a robust index set, and what an operation on one of them does to the counter and the cells.
use Rattle.laws_robust.proofs.Names.{◌≡◌, ◌≢◌, ℕ, ◌<◌, List, length, get_or, set, arith, get_or-set_same}
use Rattle.laws_robust.proofs.Names.{get_or-set_other, cell_word}

-- the counter of a set: its first word
abbrev pub counter_of : List ℕ → ℕ
counter_of words = get_or words 0 0

-- the cell of an index, which has its owner, or is empty
abbrev pub cell : List ℕ → ℕ → ℕ
cell words i = get_or words (cell_word i) 0

-- what a change of one word does to the counter and to the cells
module _ (words : List ℕ) where
  -- the counter changes
  pub counter_set : (n : ℕ) → 0 < length words → counter_of (set words 0 n) ≡ n
  counter_set n some = get_or-set_same words 0 n 0 some

  -- a write of the counter leaves each cell
  pub cells_stay : (n i : ℕ) → cell (set words 0 n) i ≡ cell words i
  cells_stay n i = get_or-set_other words 0 (cell_word i) n 0 (λ e. absurd (omega arith))

  -- a cell changes
  module _ (i x : ℕ) where
    -- a write of a cell leaves the counter
    pub counter_stays : counter_of (set words (cell_word i) x) ≡ counter_of words
    counter_stays = get_or-set_other words (cell_word i) 0 x 0 (λ e. absurd (omega arith))

    -- a cell that is written has the new value
    pub cell_set : cell_word i < length words → cell (set words (cell_word i) x) i ≡ x
    cell_set within = get_or-set_same words (cell_word i) x 0 within

    -- a write of a cell leaves the others
    pub cell_stays : (j : ℕ) → j ≢ i → cell (set words (cell_word i) x) j ≡ cell words j
    cell_stays j ne = get_or-set_other words (cell_word i) (cell_word j) x 0 (λ e. ne (omega arith))
