-- `copy_words` (src/spmc/unrestricted_atomic/loads.rt): in its loop the load stands at a word of the cell.
use Rattle.std.proofs.Common.{◌-◌}
use Rattle.lock_free_value.proofs.Names.{at_load, first_load, coding_by, View}
use Rattle.steps.specs.declared.atomic.LoadStage.TheVariants as stages
use Rattle.threaded.specs.Seats.{seen, IsSame}
use Rattle.lock_free_value.specs.Loads.{IsBoard, LoadAt}
use Rattle.lock_free_value.proofs.spmc.unrestricted_atomic.loads.copy_words.Given as given

-- whatever the view with which the load began
abbrev pub invariant-words : given.invariant-words
invariant-words g l =
    IsSame l.fn.seat l.seat × IsBoard g.T.Words.WORDS l.seat
    × ((base : View g.row.T.Denot)
    → LoadAt (coding_by g.T.Words) g.R.Room.words_in base
    (seen l.fn.seat) (at_load first_load (stages.LoadsCell l.fn.version l.fn.cell l.fn.first)) l.fn.room
    → LoadAt (coding_by g.T.Words) g.R.Room.words_in base (seen l.seat)
    (at_load first_load (stages.LoadsCell l.of l.start l.place)) l.room)

-- Each iteration leaves fewer words: the measure is the number of words from the present one on.
abbrev pub decreases-words : given.decreases-words
decreases-words g l = g.T.Words.WORDS - l.place
