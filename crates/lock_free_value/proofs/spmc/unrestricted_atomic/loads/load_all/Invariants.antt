-- `load_all` (src/spmc/unrestricted_atomic/loads.rt): in its loop the load stands at one of its stages.
use Rattle.lock_free_value.proofs.Names.{coding_by}
use Rattle.threaded.specs.Seats.{seen, IsSame}
use Rattle.lock_free_value.specs.Loads.{IsBoard, LoadAt}
use Rattle.lock_free_value.proofs.spmc.unrestricted_atomic.loads.load_all.Given as given

abbrev pub invariant-loop : given.invariant-loop
invariant-loop g l =
    IsSame l.fn.seat l.seat × IsBoard g.T.Words.WORDS l.seat
    × LoadAt (coding_by g.T.Words) g.R.Room.words_in (seen l.fn.seat) (seen l.seat) l.call l.room
