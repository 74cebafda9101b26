-- `Pass::split` (src/mpmc/container/passes.rt): its call of `split` meets the requirement `splits`.
use Rattle.lock_free_owners.proofs.Names.{coding_by, splits}
use Rattle.model.specs.declared.turn.Kind.TheVariants as kinds
use Rattle.lock_free_owners.proofs.mpmc.container.Pass.split.Goals as goal

-- a pass with a part of the share may be split: the rule of the table holds of both
-- halves (requirement `splits`)
pub split-requires-clause-splits : goal.split-requires-clause-splits
split-requires-clause-splits g c =
    let mine = c.args.self.now.token in
    splits (coding_by g.T.Words) kinds.Container _ mine.seated.seat.id mine.seated.seat.me.0
