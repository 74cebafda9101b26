-- `Pass::split` (src/mpmc/robust_unique_index_set/passes.rt): its call of `split` meets the requirement `splits`.
use Rattle.lock_free_owners.proofs.Names.{one_word, splits}
use Rattle.model.specs.declared.turn.Kind.TheVariants as kinds
use Rattle.lock_free_owners.proofs.mpmc.robust_unique_index_set.Pass.split.Goals as goal

-- a pass with a part of the share may be split: the rule of the table holds of both
-- halves (requirement `splits`)
pub split-requires-clause-splits : goal.split-requires-clause-splits
split-requires-clause-splits c = splits one_word kinds.Robust _ c.args.self.now.seated.seat.id c.args.self.now.seated.seat.me.0
