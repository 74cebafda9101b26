-- What a pass of an index set holds, by what it made.
use Rattle.std.specs.Prelude.{◌≡◌, ℕ, ◌+◌, ◌==◌, List, sum_by, if◌then◌else◌}
use Rattle.model.specs.declared.event.Event.{Event}
use Rattle.model.specs.declared.event.Event.TheVariants.{Claimed, Freed}

module _ {T : Type 0} where
  -- 1 for a claim of the index
  abbrev pub claims : ℕ → Event T → ℕ
  claims i (Claimed p index) = if index == i then 1 else 0
  claims i e = 0

  -- 1 for an event by which the index is free
  abbrev pub frees : ℕ → Event T → ℕ
  frees i (Freed p index) = if index == i then 1 else 0
  frees i e = 0

  -- the pass that made these events holds the index: they claimed it once more than they freed it
  abbrev pub Holds : ℕ → List (Event T) → Type 0
  Holds i made = sum_by (claims i) made ≡ sum_by (frees i) made + 1
