-- The set of places that a bit set is, and the place from which it is searched.
use Rattle.std.specs.Prelude.{ℕ, ◌+◌, Bool, true, false, Option, Some, None, List, [], ◌∷◌, length, drop}
use Rattle.std.specs.Prelude.{replicate, slice_get, slice_index_or, slice_set, if◌then◌else◌}

-- the set of places, and the place at which the next search begins
pub record Places : Type 0 where
  -- for each place, from 0 on, whether it stands
  pub flags : List Bool
  pub start : ℕ

-- a set of this many places, of which none stands
abbrev pub unset : ℕ → Places
unset capacity = record { flags = replicate capacity false; start = 0 }

-- whether the place stands
abbrev pub has : Places → ℕ → Bool
has s place = slice_index_or s.flags place false

-- the set with this place
abbrev pub with_place : Places → ℕ → Places
with_place s place = record s { flags = slice_set s.flags place true }

-- the places that stand, ascending, where the first flag is of this place
abbrev pub standing_from : ℕ → List Bool → List ℕ
standing_from place [] = []
standing_from place (flag ∷ flags) =
    if flag then place ∷ standing_from (place + 1) flags else standing_from (place + 1) flags

-- the places that stand, ascending
abbrev pub standing : Places → List ℕ
standing s = standing_from 0 s.flags

-- the first value, or else the second
abbrev pub or_else : Option ℕ → Option ℕ → Option ℕ
or_else (Some place) other = Some place
or_else None other = other

-- the place that a search finds: the least that stands and is not below the start, else the least that stands
abbrev pub next_place : Places → Option ℕ
next_place s =
    or_else (slice_get (standing_from s.start (drop s.start s.flags)) 0) (slice_get (standing s) 0)

-- the set once a search has found this place: the place leaves, and the next search begins behind it
abbrev pub without : Places → Option ℕ → Places
without s None = s
without s (Some place) = record { flags = slice_set s.flags place false; start = place + 1 }

-- the set without the place that a search finds next
abbrev pub after_next : Places → Places
after_next s = without s (next_place s)

-- the set without any place
abbrev pub emptied : Places → Places
emptied s = record s { flags = replicate (length s.flags) false }
