-- `Held::split` (src/spmc/unrestricted_atomic/passes.rt): its call of `split` meets the requirement `splits`.
use Rattle.lock_free_value.proofs.Names.{coding_by}
use Rattle.model.specs.declared.turn.Kind.TheVariants as kinds
use Rattle.history.proofs.Passes.{splits}
use Rattle.lock_free_value.proofs.spmc.unrestricted_atomic.passes.Held+T+ValueRule+T.split.Goals as goal

-- a pass with a part of the share may be split: the rule of the table holds of both
-- halves (requirement `splits`)
pub split-requires-clause-splits : goal.split-requires-clause-splits
split-requires-clause-splits g c =
    let mine = c.args.self.now in
    splits (coding_by g.T.Words) kinds.Atomic 1 mine.seated.seat.id mine.seated.seat.me.0
