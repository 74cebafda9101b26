-- What the closure of a find of a container is called with. T is the type of its values.
use Rattle.std.specs.Prelude.{◌≡◌, ℕ, ◌+◌, ◌<◌, ◌≤◌, ◌⊎◌, List, [], ◌∷◌, ◌++◌, length, All, AllPairs, Contains}
use Rattle.std.specs.List.{FoldsTo}
use Rattle.steps.specs.declared.enums.CallbackProgression.{CallbackProgression}
use Rattle.steps.specs.declared.enums.CallbackProgression.TheVariants.{Continue, Stop}
use Rattle.steps.specs.declared.container.handle.ContainerHandle.{ContainerHandle}
use Rattle.threaded.specs.Callable.{Ascends}

-- a value with the handle that names it
pub record Visit (T : Type 0) : Type 0 where
  pub value : T
  pub handle : ContainerHandle

module _ {T : Type 0} where
  -- each handle is one that `mine` admits, at an index above that of the one before
  abbrev pub VisitsAscend : (ContainerHandle → Type 0) → List (Visit T) → Type 0
  VisitsAscend mine visits =
      AllPairs (λ (x y : Visit T). x.handle.index < y.handle.index) visits
      × All (λ (x : Visit T). mine x.handle) visits

  -- a call of the closure, after which it was told to go on
  abbrev pub goes_on : {F : Type 0} → (F → T → ContainerHandle → CallbackProgression → F → Type 0)
      → F → Visit T → F → Type 0
  goes_on step p x q = step p x.value x.handle Continue q

-- after visits at ascending indices the closure may be called with any value, and any handle that
-- `mine` admits at an index above them
pub record TakesVisits {F T : Type 0} (pre : F → T → ContainerHandle → Type 0)
    (step : F → T → ContainerHandle → CallbackProgression → F → Type 0)
    (mine : ContainerHandle → Type 0) (f : F) : Type 0 where
  pub at : (before : List (Visit T)) (now : F) (x : Visit T)
      → FoldsTo (goes_on step) f before now → VisitsAscend mine before
      → All (λ (y : Visit T). y.handle.index < x.handle.index) before
      → mine x.handle → pre now x.value x.handle

-- The closure said at each visit but the last one to go on, and at the last one to stop. The find came
-- to no index behind that.
pub record WasStopped {F T : Type 0} (step : F → T → ContainerHandle → CallbackProgression → F → Type 0)
    (f : F) (indices : List ℕ) (visits : List (Visit T)) (last : F) : Type 0 where
  pub before : List (Visit T)
  pub now : F
  pub calls : FoldsTo (goes_on step) f before now
  pub x : Visit T
  pub is : visits ≡ before ++ x ∷ []
  pub stops : step now x.value x.handle Stop last
  pub highest : All (λ i. i ≤ x.handle.index) indices

-- A find came to `n` indices, ascending, and called the closure at some of them.
pub record HasFound {F T : Type 0}
    (step : F → T → ContainerHandle → CallbackProgression → F → Type 0) (capacity : ℕ)
    (mine : ContainerHandle → Type 0) (f : F) (n bound : ℕ) (visits : List (Visit T)) (last : F) : Type 0 where
  pub indices : List ℕ
  pub ascend : Ascends capacity indices
  pub number : length indices ≡ n
  pub visits_ascend : VisitsAscend mine visits
  pub among : All (λ (x : Visit T). Contains indices x.handle.index) visits
  -- either the closure said each time to go on, and the bound is the capacity; or it said at last to
  -- stop, and the bound is behind the index of that visit
  pub calls : (FoldsTo (goes_on step) f visits last × (bound ≡ capacity))
      ⊎ ((stopped : WasStopped step f indices visits last) × (bound ≡ stopped.x.handle.index + 1))
