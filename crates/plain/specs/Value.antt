-- The words of a single value, read as a value with its version.
use Rattle.std.specs.Prelude.{◌≡◌, ◌<◌, ℕ, ◌+◌, ◌*◌, ◌^◌, List, length, slice_index}
use Rattle.steps.specs.Atomic.{before_version, cell_word}
use Rattle.steps.specs.Objects.Values.{Versioned}
use Rattle.plain_queues.specs.Queues.{words_from}

-- the value that the words say, with its version: it stands in the cell of the version before
abbrev pub value_in : {V : Type 0} → (List ℕ → V) → ℕ → List ℕ → Versioned V
value_in value_of size words =
    record {
      value = value_of (words_from words
          (cell_word size (before_version (slice_index words 0))) size);
      version = slice_index words 0;
    }

-- the words are those of a single value: a version, a role, and two cells of `size` words
pub record Represents (size : ℕ) (words : List ℕ) : Type 0 where
  pub long : length words ≡ 2 + 2 * size
  pub fits : slice_index words 0 < 2 ^ 64
