-- `find` (src/container/visits.rt): by the invariant of the loop the find is under way, with a value visited
-- in each round of the loop.
use Rattle.plain_queues.proofs.Words.{buffer}
use Rattle.plain.proofs.Elements.Finding.{Searching}
use Rattle.plain.proofs.container.visits.find.Given as given

-- the find is under way, with a value visited in each round
abbrev pub invariant-loop : given.invariant-loop
invariant-loop g l =
    Searching
    (record {
      value_of = g.T.Words.value_of;
      as_room = buffer;
      size = g.T.Words.WORDS;
      capacity = l.fn.capacity;
      container = l.fn.id;
      owner = l.fn.owner;
      words = l.fn.words.items;
      step = λ p x h a q. given.F-step g p x h a q;
      first = l.fn.visit;
    })
    l.counter l.call l.room l.visit l.words.items
