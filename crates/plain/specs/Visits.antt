-- A closure that is called with each of a list, in order.
use Rattle.std.specs.Prelude.{List, [], ◌∷◌}
use Rattle.std.specs.List.{FoldsTo}

module _ {F X : Type 0} (pre : F → X → Type 0) (step : F → X → Unit {0} → F → Type 0) where
  -- the closure may be called with each of the list, once it was called with those before it
  abbrev pub Takes : List X → F → Type 0
  Takes [] visit = Unit {0}
  Takes (x ∷ xs) visit = pre visit x × ((next : F) → step visit x tt next → Takes xs next)

module _ {F X : Type 0} (step : F → X → Unit {0} → F → Type 0) where
  -- the closure was called with each of the list, in order and with nothing else, which led
  -- it to its state `last`
  abbrev pub WasCalled : List X → (visit last : F) → Type 0
  WasCalled xs visit last = FoldsTo (λ p x q. step p x tt q) visit xs last
