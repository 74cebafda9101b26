-- How a structure of a kind opens.
use Rattle.std.specs.Prelude.{ℕ, List}
use Rattle.model.specs.declared.families.Registry.{Registry}

-- which capacities a kind has, its words at the opening, and what is kept beside them
pub record Opening : Type 1 where
  pub least : ℕ  -- its least capacity
  pub greatest : ℕ
  pub words : ℕ → ℕ → List ℕ  -- its words, by the number of words of a value and by the capacity
  pub kept : {T : Type 0} → ℕ → Registry T  -- what its family keeps beside them, by the capacity
