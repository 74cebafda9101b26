-- `split_many` (src/splits.rt): in its loop the handles or passes in `halves` were split
-- off one after another.
use Rattle.lock_free_guards.specs.Cuts.{AreCut}
use Rattle.lock_free_guards.proofs.splits.split_many.Given as given

abbrev pub invariant-loop : given.invariant-loop
invariant-loop g l = AreCut g.H.Splits.cut l.halves.items l.fn.handle l.handle
