-- `count_cells` (src/mpmc/container/counts.rt): in its loop the count stands at a cell, with each
-- iteration at a higher one.
use Rattle.lock_free_owners.proofs.Names.{◌-◌, View, coding_by, seen}
use Rattle.steps.specs.declared.indices.robust.parts.Count.TheVariants as stages
use Rattle.lock_free_owners.specs.Container.Turns.{StaysAtBoard, CountAt}
use Rattle.lock_free_owners.proofs.mpmc.container.counts.count_cells.Given as given

-- whatever the view with which the count began, it stands at this cell
abbrev pub invariant-cells : given.invariant-cells
invariant-cells g l =
    StaysAtBoard g.T.Words.WORDS l.fn.seat l.seat
    × ((base : View g.row.T.Denot)
    → CountAt (coding_by g.T.Words) g.W.Counting.which base (seen l.fn.seat)
    (record { capacity = l.fn.capacity; count = stages.LoadsCell l.fn.counter l.fn.first l.fn.filled }) tt
    → CountAt (coding_by g.T.Words) g.W.Counting.which base (seen l.seat)
    (record { capacity = l.fn.capacity; count = stages.LoadsCell l.fn.counter l.cell l.found }) tt)

-- Each iteration leaves fewer cells: the measure is the number of cells from the present one on.
abbrev pub decreases-cells : given.decreases-cells
decreases-cells g l = l.fn.capacity - l.cell
