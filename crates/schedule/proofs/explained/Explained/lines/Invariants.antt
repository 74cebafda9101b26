-- The invariant of the loop of `Explained::lines`: some bytes were told so far, if any.
use Rattle.schedule.specs.Written.{GrowsBySome}
use Rattle.schedule.proofs.explained.Explained.lines.Given as given

abbrev pub invariant-loop-at : given.invariant-loop-at
invariant-loop-at g l = GrowsBySome (g.E.Write.contents l.initial.errors) (g.E.Write.contents l.errors)
