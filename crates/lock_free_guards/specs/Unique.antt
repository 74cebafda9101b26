-- How what a pass of a unique index set holds changes, by the events that it made before
-- (`old`) and now (`new`).
use Rattle.std.specs.Prelude.{ℕ, List, [], ◌∷◌, ◌++◌}
use Rattle.model.specs.declared.event.Event.{Event}
use Rattle.lock_free_sets.specs.Unique.Held.{HeldBy}

-- whatever indices the pass held, it holds this one too
abbrev pub HoldsMore : ℕ → List (Event ℕ) → List (Event ℕ) → Type 0
HoldsMore index old new = (is : List ℕ) → HeldBy is old → HeldBy (is ++ index ∷ []) new

-- whatever indices the pass held, it still holds
abbrev pub HoldsTheSame : List (Event ℕ) → List (Event ℕ) → Type 0
HoldsTheSame old new = (is : List ℕ) → HeldBy is old → HeldBy is new
