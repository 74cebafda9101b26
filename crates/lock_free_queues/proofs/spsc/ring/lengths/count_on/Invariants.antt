-- `count_on` (src/spsc/ring/lengths.rt): in its loop the call that counts what waits is under way.
use Rattle.lock_free_queues.proofs.Names.{View, coding_by}
use Rattle.threaded.specs.Seats.{seen, IsSame}
use Rattle.lock_free_queues.specs.Queues.Measuring.{IsBoard, CountAt}
use Rattle.lock_free_queues.proofs.spsc.ring.lengths.count_on.Given as given

-- whatever the view with which the call began, it is under way at its present stage
abbrev pub invariant-loop : given.invariant-loop
invariant-loop g l =
    IsSame l.fn.seat l.seat × IsBoard g.T.Words.WORDS g.E.Kind.KIND l.seat
    × ((base : View g.row.T.Denot) → CountAt (coding_by g.T.Words) g.E.Kind.KIND g.W.Measure.WHICH base (seen l.fn.seat) l.fn.first tt
    → CountAt (coding_by g.T.Words) g.E.Kind.KIND g.W.Measure.WHICH base (seen l.seat) l.call tt)
