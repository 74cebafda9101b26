-- `visit_element` (src/swaps.rt): the loop over the places of an element keeps that those before this one have been
-- handed out.
use Rattle.plain.proofs.Places.Empties.{Visiting}
use Rattle.plain.proofs.swaps.visit_element.Given as given

-- the places of the element before this one are handed out
abbrev pub invariant-loop-place : given.invariant-loop-place
invariant-loop-place g l =
    Visiting (given.F-pre g) (given.F-step g) l.found l.end l.first l.fn.visit l.place l.left l.visit
