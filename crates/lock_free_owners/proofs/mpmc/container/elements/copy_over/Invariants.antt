-- `copy_over` (src/mpmc/container/elements.rt): in its loop the look stands at an element, with each
-- iteration at a higher one.
use Rattle.lock_free_owners.proofs.Names.{◌-◌, ◌^◌, coding_by, seen}
use Rattle.lock_free_owners.specs.Container.LookTurns.{LookOnAt, at_count}
use Rattle.lock_free_owners.specs.Container.Turns.{StaysAtBoard}
use Rattle.lock_free_owners.proofs.mpmc.container.elements.copy_over.Given as given

abbrev pub invariant-elements : given.invariant-elements
invariant-elements g l =
    record {
      stays : StaysAtBoard g.T.Words.WORDS l.fn.seat l.seat;
      at : LookOnAt (coding_by g.T.Words) g.B.Beginning.which g.B.Beginning.from
          g.B.Beginning.shown l.fn.given (seen l.seat) (at_count l.limit l.index) l.room;
    }

-- The index rises in each iteration, and it is below 2^32.
abbrev pub decreases-elements : given.decreases-elements
decreases-elements g l = 2 ^ 32 - l.index
