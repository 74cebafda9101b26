-- `fill_cells` (src/mpmc/robust_unique_index_set/acquires.rt): in its loop the acquire stands at a
-- cell, with each iteration at a higher one.
use Rattle.lock_free_owners.proofs.Names.{ℕ, ◌-◌, View, seen}
use Rattle.steps.specs.declared.indices.robust.acquire.AcquireStage.TheVariants as stages
use Rattle.lock_free_owners.specs.Robust.Turns.{StaysAtBoard, AcquireAt}
use Rattle.lock_free_owners.proofs.mpmc.robust_unique_index_set.acquires.fill_cells.Given as given

-- whatever the view with which the acquire began, it stands at this cell
abbrev pub invariant-cells : given.invariant-cells
invariant-cells l =
    StaysAtBoard l.fn.seat l.seat
    × ((base : View ℕ) → AcquireAt l.fn.owner base (seen l.fn.seat) (record { capacity = l.fn.capacity; stage = stages.FillsCell l.fn.counter l.fn.first }) tt
    → AcquireAt l.fn.owner base (seen l.seat) (record { capacity = l.fn.capacity; stage = stages.FillsCell l.fn.counter l.cell }) tt)

-- Each iteration leaves fewer cells: the measure is the number of cells from the present one on.
abbrev pub decreases-cells : given.decreases-cells
decreases-cells l = l.fn.capacity - l.cell
