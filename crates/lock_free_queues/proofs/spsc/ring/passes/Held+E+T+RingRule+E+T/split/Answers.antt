-- `Held::split` (src/spsc/ring/passes.rt): its call of `split` meets the requirement `splits`.
use Rattle.lock_free_queues.proofs.Names.{coding_by, splits}
use Rattle.lock_free_queues.specs.Queues.Bounded.{machine_kind}
use Rattle.lock_free_queues.proofs.spsc.ring.passes.Held+E+T+RingRule+E+T.split.Goals as goal

-- a pass with a part of the share may be split: the rule of the table holds of both
-- halves (requirement `splits`)
pub split-requires-clause-splits : goal.split-requires-clause-splits
split-requires-clause-splits g c =
    let mine = c.args.self.now in
    splits (coding_by g.T.Words) (machine_kind g.E.Kind.KIND) _ mine.seated.seat.id mine.seated.seat.me.0
