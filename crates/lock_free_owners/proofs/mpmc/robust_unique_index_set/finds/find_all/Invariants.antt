-- `find_all` (src/mpmc/robust_unique_index_set/finds.rt): in its loop the seat stays at its table, and the
-- find stands at one of its stages, with its closure as it was called. Each iteration leaves fewer steps.
use Rattle.lock_free_owners.proofs.Names.{seen}
use Rattle.steps.specs.Indices.Robust.Find.{find_left}
use Rattle.lock_free_owners.specs.Robust.Finding.{Searching}
use Rattle.lock_free_owners.specs.Robust.Turns.{StaysAtBoard}
use Rattle.lock_free_owners.proofs.mpmc.robust_unique_index_set.finds.find_all.Given as given

abbrev pub invariant-loop-next : given.invariant-loop-next
invariant-loop-next g l =
    StaysAtBoard l.fn.seat l.seat
    × Searching (λ p x a q. given.F-step g p x a q) l.fn.capacity l.fn.owner (seen l.fn.seat) l.fn.visit (seen l.seat) l.call l.visit

-- Each iteration leaves the find fewer steps: the measure is how many it has left at its stage.
abbrev pub decreases-loop-next : given.decreases-loop-next
decreases-loop-next g l = find_left l.fn.capacity l.call.stage
