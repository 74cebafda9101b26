-- The counts that a counting bit set is: one for each place, from 0 on.
use Rattle.std.specs.Prelude.{ℕ, ◌+◌, ◌%◌, ◌^◌, ◌==◌, List, [], ◌∷◌, replicate, slice_index, slice_set, if◌then◌else◌}
use Rattle.steps.specs.declared.bits.counting_bit_set.BitState.{BitState}

-- one more at this place; a count wraps
abbrev pub counted : List ℕ → ℕ → List ℕ
counted counts place = slice_set counts place ((slice_index counts place + 1) % 2 ^ 64)

-- the places from this one on that have a count, ascending, with their counts
abbrev pub states_from : ℕ → List ℕ → List BitState
states_from place [] = []
states_from place (count ∷ counts) =
    if count == 0
    then states_from (place + 1) counts
    else record { bit = place; count = count } ∷ states_from (place + 1) counts

-- the places that have a count, ascending, with their counts
abbrev pub states : List ℕ → List BitState
states counts = states_from 0 counts

-- no place has a count
abbrev pub uncounted : ℕ → List ℕ
uncounted capacity = replicate capacity 0
