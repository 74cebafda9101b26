-- `pass_over` (src/mpmc/container/recovery.rt): in its loop the recovery has passed the cells from
-- `first` to this one, which were not the owner's.
use Rattle.lock_free_owners.proofs.Names.{◌-◌, ◌<◌, ◌≤◌, coding_by, seen}
use Rattle.lock_free_owners.specs.Container.Turns.{StaysAtBoard}
use Rattle.lock_free_owners.specs.Container.RecoverTurns.{at_cell, RecoverPasses}
use Rattle.lock_free_owners.proofs.mpmc.container.recovery.pass_over.Given as given

abbrev pub invariant-cells : given.invariant-cells
invariant-cells g l =
    record {
      stays : StaysAtBoard g.T.Words.WORDS l.fn.seat l.seat;
      within : l.cell < l.fn.capacity;
      onward : l.fn.first ≤ l.cell;
      goes : RecoverPasses (coding_by g.T.Words) l.fn.given
          (seen l.fn.seat) (at_cell l.fn.capacity l.fn.first) l.fn.room (at_cell l.fn.capacity l.cell) (seen l.seat);
    }

-- Each iteration leaves fewer cells: the measure is the number of cells from the present one on.
abbrev pub decreases-cells : given.decreases-cells
decreases-cells g l = l.fn.capacity - l.cell
