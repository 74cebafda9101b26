-- `recover_all` (src/mpmc/robust_unique_index_set/recovers.rt): in its loop the seat stays at its
-- table, and the recovery is under way, with its closures as they were called.
use Rattle.lock_free_owners.proofs.Names.{seen}
use Rattle.lock_free_owners.specs.Robust.Recovering.{StandsSo}
use Rattle.lock_free_owners.specs.Robust.Turns.{StaysAtBoard}
use Rattle.lock_free_owners.proofs.mpmc.robust_unique_index_set.recovers.recover_all.Given as given

abbrev pub invariant-loop : given.invariant-loop
invariant-loop g l =
    StaysAtBoard l.fn.seat l.seat
    × StandsSo (λ p o i b q. given.F-step g p o i b q) (λ s o i t. given.S-step g s o i tt t) l.fn.capacity l.fn.mode
    (seen l.fn.seat) l.fn.predicate l.fn.recovered (seen l.seat) l.call l.predicate l.recovered
