-- The words of a unique index set, read as a stack.
use Rattle.std.specs.Prelude.{◌≡◌, ◌≤◌, ◌<◌, ℕ, zero, suc, ◌+◌, ◌-◌, ◌%◌, ◌/◌, ◌^◌, Bool, not, true, eqb, List, [], ◌∷◌, length, slice_index}
use Rattle.std.specs.List.{list_any, IsDistinct}
use Rattle.steps.specs.Indices.Head.{next_word, flag_word, has_flag, proposed, says_locked}
use Rattle.steps.specs.Indices.Unique.{borrowed_number}
use Rattle.steps.specs.Objects.Stacks.{Stack}

-- n indices of the chain of free ones, from this one on: the next word of each index names the one after it
abbrev pub chain : List ℕ → ℕ → ℕ → List ℕ
chain words index zero = []
chain words index (suc n) =
    index ∷ chain words (slice_index words (next_word index) % 2 ^ 24) n

-- the free indices by these words, the top first: from the head on, each names the next
abbrev pub free_in : ℕ → List ℕ → List ℕ
free_in capacity words =
    chain words (proposed (slice_index words 0)) (capacity - borrowed_number (slice_index words 0))

-- the stack that the words of a unique index set say
abbrev pub stack_in : ℕ → List ℕ → Stack
stack_in capacity words =
    record {
      capacity = capacity;
      free = free_in capacity words;
      locked = says_locked (slice_index words 0);
    }

-- whether the claim flag of an index stands
abbrev pub claimed : ℕ → List ℕ → ℕ → Bool
claimed capacity words index = has_flag (slice_index words (flag_word capacity index)) index

-- the words are those of a unique index set: each index is free or claimed, and no index is free twice
pub record Represents (capacity : ℕ) (words : List ℕ) : Type 0 where
  pub long : length words ≡ 1 + capacity + (capacity + 63) / 64
  pub some : 1 ≤ capacity
  pub few : capacity ≤ 2 ^ 24 - 2
  pub small : slice_index words 0 < 2 ^ 64
  -- no more indices are borrowed than there are
  pub count : borrowed_number (slice_index words 0) ≤ capacity
  -- no index is free twice
  pub distinct : IsDistinct eqb (free_in capacity words)
  -- each free index is one of the set
  pub below : (i : ℕ) → list_any (eqb i) (free_in capacity words) ≡ true → i < capacity
  -- an index is claimed just if it is not free
  pub flags : (i : ℕ) → i < capacity
      → claimed capacity words i ≡ not (list_any (eqb i) (free_in capacity words))
