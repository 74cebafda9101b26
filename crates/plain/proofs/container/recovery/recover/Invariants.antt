-- `recover` (src/container/recovery.rt): by the invariant of the loop the recovery is under way, with a
-- question for each round of the loop.
use Rattle.plain_queues.proofs.Words.{buffer}
use Rattle.plain.proofs.Elements.Recovering.{Searching}
use Rattle.plain.proofs.container.recovery.recover.Given as given

-- the recovery is under way, with a question asked in each round
abbrev pub invariant-loop : given.invariant-loop
invariant-loop g l =
    Searching
    (record {
      value_of = g.T.Words.value_of;
      as_room = buffer;
      size = g.T.Words.WORDS;
      capacity = l.fn.capacity;
      container = l.fn.id;
      owner = l.fn.owner;
      mode = l.fn.mode;
      words = l.fn.words.items;
      step = λ p x b q. given.F-step g p x b q;
      first = l.fn.predicate;
    })
    l.counter l.call l.room l.predicate l.words.items
