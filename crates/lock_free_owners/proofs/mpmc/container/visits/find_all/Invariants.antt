-- `find_all` (src/mpmc/container/visits.rt): in its loop the seat stays at its table, and the find
-- stands at one of its stages, with its closure as it was called. Each iteration leaves fewer steps.
use Rattle.lock_free_owners.proofs.Names.{coding_by, seen}
use Rattle.steps.specs.Container.Find.{find_left}
use Rattle.lock_free_owners.specs.Container.Turns.{StaysAtBoard}
use Rattle.lock_free_owners.proofs.ContainerSet.Finds.{Searching}
use Rattle.lock_free_owners.proofs.mpmc.container.visits.find_all.Given as given

abbrev pub invariant-loop-next : given.invariant-loop-next
invariant-loop-next g l =
    StaysAtBoard g.T.Words.WORDS l.fn.seat l.seat
    × Searching (record {
      code = coding_by g.T.Words;
      step = λ p x h a q. given.F-step g p x h a q;
      capacity = l.fn.capacity;
      owner = l.fn.owner;
      id = l.fn.id;
      base = seen l.fn.seat;
      visit = l.fn.visit;
    }) (seen l.seat) l.call l.room l.visit

-- Each iteration leaves the find fewer steps: the measure is how many it has left at its stage.
abbrev pub decreases-loop-next : given.decreases-loop-next
decreases-loop-next g l = find_left g.T.Words.WORDS l.call.capacity l.call.stage
