-- `count_all` (src/mpmc/container/counts.rt): in its loop the seat stays at its table, and
-- the count is under way.
use Rattle.lock_free_owners.proofs.Names.{coding_by, seen}
use Rattle.lock_free_owners.specs.Container.Turns.{StaysAtBoard, CountAt}
use Rattle.lock_free_owners.proofs.mpmc.container.counts.count_all.Given as given

abbrev pub invariant-loop : given.invariant-loop
invariant-loop g l =
    StaysAtBoard g.T.Words.WORDS l.fn.seat l.seat
    × CountAt (coding_by g.T.Words) g.W.Counting.which (seen l.fn.seat) (seen l.seat) l.call tt
