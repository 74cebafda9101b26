-- `find` (src/robust_unique_index_set.rt): by the invariant of the loop the find is under way, with an index
-- visited in each round of the loop.
use Rattle.plain.proofs.Robust.Finding.{Searching}
use Rattle.plain.proofs.robust_unique_index_set.find.Given as given

abbrev pub invariant-loop : given.invariant-loop
invariant-loop g l =
    Searching
    (record {
      capacity = l.fn.capacity;
      owner = l.fn.owner;
      words = l.fn.words.items;
      step = λ p x a q. given.F-step g p x a q;
      first = l.fn.visit;
    })
    l.counter l.call l.visit l.words.items
