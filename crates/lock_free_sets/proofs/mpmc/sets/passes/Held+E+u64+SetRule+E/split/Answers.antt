-- `Held::split` (src/mpmc/sets/passes.rt): its call of `split` meets the requirement `splits`.
use Rattle.lock_free_sets.proofs.Names.{one_word, splits}
use Rattle.lock_free_sets.specs.Sets.Kinds.{machine_kind}
use Rattle.lock_free_sets.proofs.mpmc.sets.passes.Held+E+u64+SetRule+E.split.Goals as goal

-- a pass with a part of the share may be split: the rule of the table holds of both
-- halves (requirement `splits`)
pub split-requires-clause-splits : goal.split-requires-clause-splits
split-requires-clause-splits g c =
    splits one_word (machine_kind g.E.Kind.KIND) _ c.args.self.now.seated.seat.id c.args.self.now.seated.seat.me.0
