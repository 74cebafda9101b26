-- What a closure is called with that visits places (`reset_all`, `find`): places that ascend below the
-- capacity, each at most once.
use Rattle.std.specs.Prelude.{ℕ, ◌<◌, List, All, AllPairs}
use Rattle.std.specs.List.{FoldsTo}

-- each place is below the capacity and above the one before it
abbrev pub Ascends : ℕ → List ℕ → Type 0
Ascends capacity places = AllPairs (λ x y. x < y) places × All (λ place. place < capacity) places

-- after calls at places that ascend, the closure may be called at any place above them and below the capacity
pub record TakesPlaces {F : Type 0} (pre : F → ℕ → Type 0) (step : F → ℕ → F → Type 0)
    (capacity : ℕ) (f : F) : Type 0 where
  pub at : (before : List ℕ) (now : F) (place : ℕ) → FoldsTo step f before now
      → Ascends capacity before → All (λ p. p < place) before → place < capacity
      → pre now place
