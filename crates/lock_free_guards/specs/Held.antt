-- Whom an index is held for, by the events that a pass made, and how many indices of an owner it freed.
use Rattle.std.specs.Prelude.{◌≡◌, ℕ, ◌==◌, Some, List, sum_by, if◌then◌else◌}
use Rattle.model.specs.declared.event.Event.{Event}
use Rattle.model.specs.declared.event.Event.TheVariants.{FreedOf}
use Rattle.model.specs.Families.Indices.Robust.Reading.{holder_of}

-- the latest of these events that grants or frees the index grants it to this owner
abbrev pub HoldsFor : (owner index : ℕ) → List (Event ℕ) → Type 0
HoldsFor owner index made = holder_of index made ≡ Some owner

-- 1 for an event that frees an index of this owner
abbrev pub frees_of : ℕ → Event ℕ → ℕ
frees_of owner (FreedOf p index o) = if o == owner then 1 else 0
frees_of owner e = 0

-- how often an index of this owner was freed
abbrev pub number_freed : ℕ → List (Event ℕ) → ℕ
number_freed owner made = sum_by (frees_of owner) made
