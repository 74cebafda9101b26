-- The words of an overflowing queue, read as a list.
use Rattle.std.specs.Prelude.{◌≡◌, ◌≤◌, ◌<◌, ℕ, ◌+◌, ◌-◌, ◌^◌, List, length, slice_index}
use Rattle.steps.specs.Objects.Lists.{Bounded}
use Rattle.plain_queues.specs.Queues.{values_from}

-- the number that the word of a cell makes
abbrev pub number_of : List ℕ → ℕ
number_of words = slice_index words 0

-- the n numbers from a position on, of a queue that has one cell more than its capacity
abbrev pub numbers_from : ℕ → List ℕ → (position n : ℕ) → List ℕ
numbers_from capacity words position n =
    values_from number_of 1 (capacity + 1) words position n

-- the list that an overflowing queue's words say: from the read position to the write position
abbrev pub list_in : ℕ → List ℕ → Bounded ℕ
list_in capacity words =
    record {
      capacity = capacity;
      first = slice_index words 1;
      values = numbers_from capacity words (slice_index words 1)
          (slice_index words 0 - slice_index words 1);
    }

-- the words are those of an overflowing queue: the read position is at most the capacity behind the write position
pub record Represents (capacity : ℕ) (words : List ℕ) : Type 0 where
  pub long : length words ≡ 5 + capacity
  pub small : capacity < 2 ^ 32
  -- the read position is not past the write position
  pub behind : slice_index words 1 ≤ slice_index words 0
  -- at most the capacity waits
  pub near : slice_index words 0 ≤ slice_index words 1 + capacity
  -- positions have 64 bits
  pub fits : slice_index words 0 < 2 ^ 64
