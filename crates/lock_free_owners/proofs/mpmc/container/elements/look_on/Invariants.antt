-- `look_on` (src/mpmc/container/elements.rt): in its loop the seat stays at its table, and the look
-- that has found a change is under way.
use Rattle.lock_free_owners.proofs.Names.{coding_by, seen}
use Rattle.lock_free_owners.specs.Container.LookTurns.{LookOnAt}
use Rattle.lock_free_owners.specs.Container.Turns.{StaysAtBoard}
use Rattle.lock_free_owners.proofs.mpmc.container.elements.look_on.Given as given

abbrev pub invariant-loop : given.invariant-loop
invariant-loop g l =
    record {
      stays : StaysAtBoard g.T.Words.WORDS l.fn.seat l.seat;
      at : LookOnAt (coding_by g.T.Words) g.B.Beginning.which g.B.Beginning.from
          g.B.Beginning.shown l.fn.given (seen l.seat) l.call l.room;
    }
