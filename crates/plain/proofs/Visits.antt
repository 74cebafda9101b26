-- A closure that may be called with anything takes every list: for callers of `reset_all`.
use Rattle.std.specs.Prelude.{List, [], ◌∷◌}
use Rattle.plain.specs.Visits.{Takes}

module _ {F X : Type 0} (pre : F → X → Type 0) (step : F → X → Unit {0} → F → Type 0) where
  -- a closure that may be called with anything may be called with each of a list
  pub takes_any : ((f : F) (x : X) → pre f x) → (xs : List X) (f : F) → Takes pre step xs f
  takes_any may [] f = tt
  takes_any may (x ∷ xs) f = (may f x, λ next _. takes_any may xs next)
