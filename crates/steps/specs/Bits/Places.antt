-- The places of one element.
use Rattle.std.specs.Prelude.{ℕ, ◌-◌, ◌*◌, List, filter}
use Rattle.std.specs.List.{range_with_len}
use Rattle.steps.specs.Bits.Words.{has_flag}

-- the first place of the element in this word
abbrev pub first_place : ℕ → ℕ
first_place word = (word - 1) * 64

-- the places in this word whose flags it has, ascending
abbrev pub places_in : (word found : ℕ) → List ℕ
places_in word found =
    filter (λ place. has_flag found place) (range_with_len (first_place word) 64)
