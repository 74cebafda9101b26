-- The words of a robust set of indices, read as a map from index to owner.
use Rattle.std.specs.Prelude.{◌≡◌, ◌≤◌, ◌<◌, ℕ, ◌+◌, ◌^◌, ◌==◌, Option, Some, None, List, [], ◌∷◌, length, map, slice_index, if◌then◌else◌}
use Rattle.steps.specs.Indices.Robust.Parts.{empty}
use Rattle.steps.specs.Objects.Owners.{Owners}

-- the owner that a cell's word says
abbrev pub owner_in : ℕ → Option ℕ
owner_in word = if word == empty then None else Some word

-- the map from index to owner that a robust set's words say: the counter, and then the cells
abbrev pub owners_in : List ℕ → Owners
owners_in [] = record { owners = []; generation = 0 }
owners_in (counter ∷ cells) = record { owners = map owner_in cells; generation = counter }

-- the words are those of a robust set of this capacity: a counter, and a cell for each index
pub record Represents (capacity : ℕ) (words : List ℕ) : Type 0 where
  pub long : length words ≡ 1 + capacity
  pub some : 1 ≤ capacity
  pub few : capacity < 2 ^ 32
  pub small : slice_index words 0 < 2 ^ 64
