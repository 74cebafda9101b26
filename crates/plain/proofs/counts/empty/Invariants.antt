-- `empty` (src/counts.rt): the loop over the places keeps that the words before this one are 0, and that their counts
-- have been handed out.
use Rattle.plain.proofs.Emptied.{Emptying}
use Rattle.plain.proofs.counts.empty.Given as given

-- the words before this place are 0, and their counts are handed out
abbrev pub invariant-loop-place : given.invariant-loop-place
invariant-loop-place g l =
    Emptying
    (record {
      capacity = l.capacity;
      before = l.fn.words.items;
      pre = given.F-pre g;
      step = given.F-step g;
      first = l.fn.visit;
    })
    l.place l.call l.words.items l.visit
