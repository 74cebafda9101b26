-- `empty` (src/bits.rt): the loop over the words keeps that those before it are 0, and that the places that stood in
-- them have been handed out.
use Rattle.plain.proofs.Places.Empties.{Emptying}
use Rattle.plain.proofs.bits.empty.Given as given

-- the elements before this one are 0, and the places that stood in them are handed out
abbrev pub invariant-loop : given.invariant-loop
invariant-loop g l =
    Emptying (given.F-pre g) (given.F-step g) l.capacity l.fn.words.items l.fn.visit l.counter l.first l.call l.words.items l.visit
