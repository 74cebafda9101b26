-- `open` (src/unique.rt): by the invariant of the loop the next words of the indices before this one are
-- written, and the head and the flags are 0.
use Rattle.plain.proofs.Stacks.Opened.{Linked}
use Rattle.plain.proofs.unique.open.Given as given

abbrev pub invariant-loop-index : given.invariant-loop-index
invariant-loop-index l = Linked l.index l.capacity l.words.items
