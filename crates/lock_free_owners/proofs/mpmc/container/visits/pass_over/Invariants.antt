-- `pass_over` (src/mpmc/container/visits.rt): in its loop the find has passed the cells from `first` to
-- this one, which were not the owner's, with one operation for each.
use Rattle.lock_free_owners.proofs.Names.{◌-◌, ◌<◌, ◌≤◌, coding_by, GoOn, seen}
use Rattle.history.specs.Steps.{TakesAtMost}
use Rattle.lock_free_owners.specs.Container.FindTurns.{at_cell, FindPasses}
use Rattle.lock_free_owners.specs.Container.Turns.{StaysAtBoard}
use Rattle.lock_free_owners.proofs.mpmc.container.visits.pass_over.Given as given

abbrev pub invariant-cells : given.invariant-cells
invariant-cells g l =
    record {
      stays : StaysAtBoard g.T.Words.WORDS l.fn.seat l.seat;
      within : l.cell < l.fn.capacity;
      onward : l.fn.first ≤ l.cell;
      goes : FindPasses (coding_by g.T.Words) l.fn.owner
          (seen l.fn.seat) (at_cell l.fn.capacity l.fn.first l.fn.found) l.fn.room (GoOn (at_cell l.fn.capacity l.cell l.fn.found)) (seen l.seat);
      steps : TakesAtMost (l.cell - l.fn.first) (seen l.fn.seat) (seen l.seat);
    }

-- Each iteration leaves fewer cells: the measure is the number of cells from the present one on.
abbrev pub decreases-cells : given.decreases-cells
decreases-cells g l = l.fn.capacity - l.cell
