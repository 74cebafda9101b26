-- `ask_over` (src/mpmc/robust_unique_index_set/asks.rt): in its loop the recovery stands at a cell,
-- with each iteration at a higher one, and its closures are as they were called.
use Rattle.lock_free_owners.proofs.Names.{◌≡◌, ◌-◌, ℕ, ◌<◌, None, View, seen}
use Rattle.lock_free_owners.specs.Robust.Recovering.{StandsSo}
use Rattle.lock_free_owners.specs.Robust.Turns.{StaysAtBoard}
use Rattle.lock_free_owners.proofs.RobustSet.Turns.{passes}
use Rattle.lock_free_owners.proofs.mpmc.robust_unique_index_set.asks.ask_over.Given as given

-- whatever the view and the closures with which the recovery began, it stands at this cell
abbrev pub invariant-cells : given.invariant-cells
invariant-cells g l =
    record {
      stays : StaysAtBoard l.fn.seat l.seat;
      within : l.cell < l.fn.capacity;
      goes : (base : View ℕ) (f : g.row.F.Denot) (s q : g.row.S.Denot) → base.going ≡ None
          → StandsSo (λ p o i b r. given.F-step g p o i b r) (λ x o i t. given.S-step g x o i tt t) base.capacity l.fn.mode base f s
          (seen l.fn.seat) (passes l.fn.capacity l.fn.first) l.fn.predicate q
          → StandsSo (λ p o i b r. given.F-step g p o i b r) (λ x o i t. given.S-step g x o i tt t) base.capacity l.fn.mode base f s
          (seen l.seat) (passes l.fn.capacity l.cell) l.predicate q;
    }

-- Each iteration leaves fewer cells: the measure is the number of cells from the present one on.
abbrev pub decreases-cells : given.decreases-cells
decreases-cells g l = l.fn.capacity - l.cell
