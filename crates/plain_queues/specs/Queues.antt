-- The words of a bounded queue, read as a list.
use Rattle.std.specs.Prelude.{◌≡◌, ◌≤◌, ◌<◌, ℕ, zero, suc, ◌+◌, ◌-◌, ◌*◌, ◌%◌, ◌^◌, List, [], ◌∷◌, length, slice_index}
use Rattle.steps.specs.Objects.Lists.{Bounded}

-- n words of the list, from this place on
abbrev pub words_from : List ℕ → ℕ → ℕ → List ℕ
words_from words at zero = []
words_from words at (suc n) = slice_index words at ∷ words_from words (suc at) n

module _ {V : Type 0} (value_of : List ℕ → V) (size capacity : ℕ) where
  -- the value at a position
  abbrev pub value_at : List ℕ → ℕ → V
  value_at words position = value_of (words_from words (4 + size * (position % capacity)) size)

  -- the n values from a position on
  abbrev pub values_from : List ℕ → ℕ → ℕ → List V
  values_from words position zero = []
  values_from words position (suc n) =
      value_at words position ∷ values_from words (position + 1) n

  -- the list that a queue's words say: from the read position to the write position
  abbrev pub list_in : List ℕ → Bounded V
  list_in words =
      record {
        capacity = capacity;
        first = slice_index words 1;
        values = values_from words (slice_index words 1)
            (slice_index words 0 - slice_index words 1);
      }

-- the read position is at most the capacity behind the write position
pub record Represents (size capacity : ℕ) (words : List ℕ) : Type 0 where
  pub long : length words ≡ 4 + size * capacity
  pub small : capacity < 2 ^ 32
  -- the read position is not past the write position
  pub behind : slice_index words 1 ≤ slice_index words 0
  -- at most the capacity waits
  pub near : slice_index words 0 ≤ slice_index words 1 + capacity
  -- positions have 64 bits
  pub fits : slice_index words 0 < 2 ^ 64
