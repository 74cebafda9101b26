-- `count_all` (src/mpmc/robust_unique_index_set/counts.rt): in its loop the seat stays at its table,
-- and the count is under way.
use Rattle.lock_free_owners.proofs.Names.{seen}
use Rattle.lock_free_owners.specs.Robust.Turns.{StaysAtBoard, CountAt}
use Rattle.lock_free_owners.proofs.mpmc.robust_unique_index_set.counts.count_all.Given as given

abbrev pub invariant-loop : given.invariant-loop
invariant-loop g l = StaysAtBoard l.fn.seat l.seat × CountAt (seen l.fn.seat) (seen l.seat) l.call tt
