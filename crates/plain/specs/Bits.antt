-- The words of a bit set, read as a set of places.
use Rattle.std.specs.Prelude.{◌≡◌, ◌≤◌, ◌<◌, ℕ, ◌+◌, ◌^◌, Bool, List, length, map, slice_index}
use Rattle.std.specs.List.{range_with_len}
use Rattle.steps.specs.Bits.Words.{elements, has_flag, stands}
use Rattle.steps.specs.Objects.Places.{Places, standing_from}

-- for each place, from 0 on, whether its flag stands in these words
abbrev pub flags_in : ℕ → List ℕ → List Bool
flags_in capacity words = map (stands words) (range_with_len 0 capacity)

-- the set of places that these words say
abbrev pub places_in : ℕ → List ℕ → Places
places_in capacity words =
    record { flags = flags_in capacity words; start = slice_index words 0 }

-- the places, of n from `first` on, whose flags stand in the element
abbrev pub standing_in : (element first n : ℕ) → List ℕ
standing_in element first n =
    standing_from first (map (has_flag element) (range_with_len first n))

-- the words are those of a bit set of this capacity: a start for its searches, and an element for each 64 places
pub record Represents (capacity : ℕ) (words : List ℕ) : Type 0 where
  pub long : length words ≡ 1 + elements capacity
  pub small : capacity < 2 ^ 32
  pub start : slice_index words 0 ≤ capacity
