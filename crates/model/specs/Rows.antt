-- A table of refusals: what is tested, and the name of the refusal.
use Rattle.std.specs.Prelude.{Bool, Option, Some, None, List, [], ◌∷◌, if◌then◌else◌}
use Rattle.model.specs.declared.turn.Refusal.{Refusal}

-- the refusal of the first row that applies
abbrev pub first_row : List (Bool × Refusal) → Option Refusal
first_row [] = None
first_row (row ∷ rows) = if row.0 then Some row.1 else first_row rows
