-- `recover` (src/robust_unique_index_set.rt): by the invariant of the loop the recovery is under way, with a
-- question for each round of the loop.
use Rattle.plain.proofs.Robust.Recovering.{Recovering}
use Rattle.plain.proofs.robust_unique_index_set.recover.Given as given

abbrev pub invariant-loop : given.invariant-loop
invariant-loop g l =
    Recovering
    (record {
      mode = l.fn.mode;
      capacity = l.fn.capacity;
      words = l.fn.words.items;
      step = λ p o i b q. given.F-step g p o i b q;
      answering = l.fn.predicate;
      tell = λ s o i t. given.S-step g s o i tt t;
      hearing = l.fn.recovered;
    })
    l.counter l.call l.predicate l.recovered l.words.items
