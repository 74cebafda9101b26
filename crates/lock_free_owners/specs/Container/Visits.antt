-- Where a find of a container stands, and what a step makes of its closure.
-- size is the number of the words of a value, R the room for them.
use Rattle.std.specs.Prelude.{◌≡◌, ℕ, ◌+◌, ◌<◌, ◌≤◌, List, map}
use Rattle.steps.specs.Container.Find.{find_after}
use Rattle.steps.specs.declared.ask.After.{After}
use Rattle.steps.specs.declared.enums.CallbackProgression.{CallbackProgression}
use Rattle.steps.specs.declared.container.handle.ContainerHandle.{ContainerHandle}
use Rattle.steps.specs.declared.container.find.Find.{Find}
use Rattle.steps.specs.declared.container.find.FindStage as finds
use Rattle.lock_free_owners.specs.Container.Callable.{Visit}
use Rattle.lock_free_owners.specs.Robust.Stages.{says}

-- what holds at each stage of a find: its index is below the capacity, and it has found at most as many
-- indices as it has loaded cells
abbrev pub FindStage : (size capacity : ℕ) → finds.FindStage → Type 0
FindStage size capacity (finds.TheVariants.LoadsCell index found) =
    (index < capacity) × (found ≤ index)
FindStage size capacity (finds.TheVariants.LoadsCount index found) =
    (index < capacity) × (found ≤ index + 1)
FindStage size capacity (finds.TheVariants.LoadsWord index found count at) =
    (index < capacity) × (found ≤ index + 1) × (at < size)
FindStage size capacity (finds.TheVariants.ChecksCount index found count) =
    (index < capacity) × (found ≤ index + 1)
FindStage size capacity (finds.TheVariants.Asks index found) =
    (index < capacity) × (found ≤ index + 1)

-- the find is of a container of this capacity, and stands at a stage that there is
abbrev pub FindStands : {T R : Type 0} → ℕ → ℕ → Find T R → Type 0
FindStands size capacity call =
    (call.capacity ≡ capacity) × FindStage size capacity call.stage

-- the handle of the value of this owner at this index, in the container with this number
abbrev pub named : ℕ → ℕ → ℕ → ContainerHandle
named index owner container = record { index = index; owner = owner; container = container }

-- a handle of the container with this number and this capacity, which names this owner
abbrev pub IsNamed : (capacity owner id : ℕ) → ContainerHandle → Type 0
IsNamed capacity owner id h = ((h.container ≡ id) × (h.index < capacity)) × (h.owner ≡ owner)

module _ {T F : Type 0} where
  -- what a turn asks of the closure: at a question it may be called with the value in the room and its handle
  abbrev pub FindAsks : (F → T → ContainerHandle → Type 0) → (owner id : ℕ) → finds.FindStage → T → F → Type 0
  FindAsks pre owner id (finds.TheVariants.Asks index found) value f =
      pre f value (named index owner id)
  FindAsks pre owner id stage value f = Unit {0}

-- the values that were copied, each with the handle of this owner at its index
abbrev pub visits_of : {T : Type 0} → ℕ → ℕ → List (ℕ × T) → List (Visit T)
visits_of owner container copies = map (λ c. record { value = c.1; handle = named c.0 owner container }) copies

module _ {T R F : Type 0} where
  -- how the find goes on by the closure's answer at a question; at any other stage the closure stays
  abbrev pub FindMoves : (F → T → ContainerHandle → CallbackProgression → F → Type 0) → (size id : ℕ) → Find T R → ℕ
      → finds.FindStage → T → F → After (Find T R) ℕ → F → Type 0
  FindMoves step size id call owner (finds.TheVariants.Asks index found) value f after g =
      (a : CallbackProgression) × step f value (named index owner id) a g
      × (after ≡ find_after size call owner (says a))
  FindMoves step size id call owner stage value f after g = g ≡ f
