-- `free_all` (src/mpmc/container/recovery.rt): in its loop the seat stays at its table, and the
-- recovery stands at one of its stages, with its closure as it was asked.
use Rattle.lock_free_owners.proofs.Names.{coding_by, seen}
use Rattle.lock_free_owners.specs.Container.Turns.{StaysAtBoard}
use Rattle.lock_free_owners.proofs.ContainerSet.Recoveries.{Standing}
use Rattle.lock_free_owners.proofs.mpmc.container.recovery.free_all.Given as given

abbrev pub invariant-loop : given.invariant-loop
invariant-loop g l =
    StaysAtBoard g.T.Words.WORDS l.fn.seat l.seat
    × Standing (record {
      code = coding_by g.T.Words;
      step = λ p x b q. given.F-step g p x b q;
      capacity = l.fn.capacity;
      given = record { owner = l.fn.owner; mode = l.fn.mode };
      base = seen l.fn.seat;
      predicate = l.fn.predicate;
    }) (seen l.seat) l.call l.room l.predicate
