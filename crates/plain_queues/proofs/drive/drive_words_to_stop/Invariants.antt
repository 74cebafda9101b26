-- `drive_words_to_stop` (src/drive.rt): by the invariant of the loop the driver is under way from its first
-- call, with as many steps done as the loop has had rounds.
use Rattle.plain_queues.proofs.Alone.{Going}
use Rattle.plain_queues.proofs.drive.drive_words_to_stop.Given as given

abbrev pub invariant-loop : given.invariant-loop
invariant-loop g l =
    Going g.C.Routine.want_of g.C.Routine.after g.C.Routine.kept l.given l.fn.call l.fn.room l.fn.words l.counter l.call l.room l.words
