-- What the closure of a recovery of a container is called with: values at indices that ascend below
-- the capacity, each at most once. T is the type of its values.
use Rattle.std.specs.Prelude.{ℕ, ◌<◌, Bool, List, length, All, AllPairs}
use Rattle.std.specs.List.{FoldsTo}

-- a question about the value at an index, and the answer
pub record Answered (T : Type 0) : Type 0 where
  pub index : ℕ
  pub value : T
  pub yes : Bool

module _ {T : Type 0} where
  -- each index is below the capacity, and above the one before
  abbrev pub AnswersAscend : ℕ → List (Answered T) → Type 0
  AnswersAscend capacity asked =
      AllPairs (λ (x y : Answered T). x.index < y.index) asked
      × All (λ (a : Answered T). a.index < capacity) asked

  -- one call of the closure: it answered this question so, and became q
  abbrev pub asks : {F : Type 0} → (F → T → Bool → F → Type 0) → F → Answered T → F → Type 0
  asks step p a q = step p a.value a.yes q

-- after questions that ascend, fewer than the capacity, the closure may be asked about any value at
-- an index above them and below the capacity
pub record TakesValues {F T : Type 0} (pre : F → T → Type 0) (step : F → T → Bool → F → Type 0)
    (capacity : ℕ) (f : F) : Type 0 where
  pub at : (before : List (Answered T)) (now : F) (index : ℕ) (value : T)
      → FoldsTo (asks step) f before now → AnswersAscend capacity before
      → All (λ (a : Answered T). a.index < index) before → index < capacity
      → length before < capacity → pre now value
