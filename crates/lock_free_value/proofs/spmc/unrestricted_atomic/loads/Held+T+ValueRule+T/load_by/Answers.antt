-- `Held::load_by` (src/spmc/unrestricted_atomic/loads.rt): its call of `load_all` meets the requirement `at`, and its return meets the
-- clauses `loaded` and `steps`.
use Rattle.std.proofs.Common.{ap, sym, subst, ◌∙◌, arith}
use Rattle.lock_free_value.proofs.Names.{Coding, IsCoding, coding_by}
use Rattle.history.specs.Rooms.{room_of}
use Rattle.history.proofs.Rooms.{room_fresh}
use Rattle.history_value.proofs.ValueCalls.{load_first}
use Rattle.lock_free_value.specs.Calls.{seen}
use Rattle.lock_free_value.specs.ValueContracts.{HasLoaded}
use Rattle.lock_free_value.proofs.Facts.{has_loaded, takes_here}
use Rattle.lock_free_value.proofs.spmc.unrestricted_atomic.loads.Held+T+ValueRule+T.load_by.Goals as goal

-- the load is about to begin with a room of zeros, as a call that its value does not refuse
pub load_all-end-requires-clause-at : goal.load_all-end-requires-clause-at
load_all-end-requires-clause-at g c =
    let mine = c.args.self.now in
    let met = g.met.T.Words in
    let code : Coding g.row.T.Denot = coding_by g.T.Words in
    let law : IsCoding code = record { some = met.some; few = met.few; sized = met.sized; given_back = met.given_back } in
    let room = c.requires.room in
    let zeros = ap (room_of code.size) room.3 ∙ room_fresh code.size room.0 room.1 room.2 in
    load_first code law g.R.Room.words_in g.R.Room.with_word g.met.R.Room.put_in (seen mine) c.args.room zeros mine.idle mine.alone mine.some.0

-- the load answered the value that was the last one stored at one moment of the call
pub returns-clause-loaded : goal.returns-clause-loaded
returns-clause-loaded g c =
    let mine = c.args.self.now in
    subst (λ x. HasLoaded x (seen mine) c.load_all-end.new.seat.seat.me.0) (sym c.answer.ensures)
    (has_loaded mine.idle mine.known g.R.Room.words_in mine.begun c.load_all-end.ensures.ends)

-- the load takes 2 operations and one for each word of the value, and for each change of a word
-- that others make meanwhile 1 more and one for each word
pub returns-clause-steps : goal.returns-clause-steps
returns-clause-steps g c = takes_here c.args.self.now.idle c.args.self.now.known c.load_all-end.ensures.ends (omega arith)
