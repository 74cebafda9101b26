-- `pass_over` (src/mpmc/robust_unique_index_set/finds.rt): in its loop the find has passed the cells
-- from `first` to this one, which were not the owner's.
use Rattle.lock_free_owners.proofs.Names.{◌-◌, ◌≤◌, ◌<◌, GoOn, seen}
use Rattle.steps.specs.declared.indices.robust.find.FindStage.TheVariants as stages
use Rattle.lock_free_owners.specs.Robust.Finding.{KeepsSearching}
use Rattle.lock_free_owners.specs.Robust.Turns.{IsReady, StaysAtBoard}
use Rattle.lock_free_owners.proofs.mpmc.robust_unique_index_set.finds.pass_over.Given as given

-- whatever the view with which the find began, and what its closure has become, it stands at this cell
abbrev pub invariant-cells : given.invariant-cells
invariant-cells g l =
    record {
      stays : StaysAtBoard l.fn.seat l.seat;
      ready : IsReady l.fn.capacity l.seat;
      searching : (p : g.row.F.Denot) → KeepsSearching (λ q x a r. given.F-step g q x a r) l.fn.capacity l.fn.owner (seen l.fn.seat)
          (record { capacity = l.fn.capacity; stage = stages.LoadsCell l.fn.first l.fn.so_many }) p
          (GoOn (record { capacity = l.fn.capacity; stage = stages.LoadsCell l.cell l.fn.so_many })) (seen l.seat) p;
      past : l.fn.first ≤ l.cell;
      inside : l.cell < l.fn.capacity;
    }

-- Each iteration leaves fewer cells: the measure is the number of cells from the present one on.
abbrev pub decreases-cells : given.decreases-cells
decreases-cells g l = l.fn.capacity - l.cell
