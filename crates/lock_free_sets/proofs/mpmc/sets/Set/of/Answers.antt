-- `Set::of` (src/mpmc/sets/make.rt): its call of `open` meets what that requires.
use Rattle.lock_free_sets.proofs.Names.{rules, arith}
use Rattle.lock_free_sets.proofs.Sets.Opens.{opens}
use Rattle.lock_free_sets.proofs.mpmc.sets.Set.of.Goals as goal

pub open-requires : goal.open-requires
open-requires g c = opens g.E.Kind.KIND c.args.capacity (omega arith) c.as_slice.result.now (search rules)
