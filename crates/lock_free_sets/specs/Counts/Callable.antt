-- What the closure of `reset_all` of a counting bit set is called with: places that ascend below the
-- capacity, each at most once, with their counts, which are above 0 and less than 2^64.
use Rattle.std.specs.Prelude.{ℕ, ◌<◌, ◌^◌, List, All, AllPairs}
use Rattle.std.specs.List.{FoldsTo}
use Rattle.steps.specs.declared.bits.counting_bit_set.BitState.{BitState}

-- each place is below the capacity and above the one before it, with a count above 0 and less than 2^64
abbrev pub CountsAscend : ℕ → List BitState → Type 0
CountsAscend capacity states =
    AllPairs (λ (x y : BitState). x.bit < y.bit) states
    × All (λ (state : BitState). (state.bit < capacity) × (0 < state.count) × (state.count < 2 ^ 64)) states

-- after calls at ascending places the closure may be called at any place above them and below the
-- capacity, with any count above 0 and less than 2^64
pub record TakesCounts {F : Type 0} (pre : F → BitState → Type 0)
    (step : F → BitState → F → Type 0) (capacity : ℕ) (f : F) : Type 0 where
  pub at : (before : List BitState) (now : F) (state : BitState) → FoldsTo step f before now
      → CountsAscend capacity before → All (λ (s : BitState). s.bit < state.bit) before
      → state.bit < capacity → 0 < state.count → state.count < 2 ^ 64 → pre now state
